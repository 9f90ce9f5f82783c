-- Why a whole form ends: its lines only bring entries up and take them away, until lines of one call each are left.
-- A whole form is an operation of the committer that is made to its end, as `commit_job`; a step value makes it call by call. Our own.
use Rattle.std.specs.Prelude.{◌≡◌, ◌≤◌, Bool, true, false, List, [], ◌∷◌, length, ◌⊎◌}
use Rattle.mr_names.specs.declared.op.Op.{Op}
use Rattle.mr_names.specs.declared.op.Op.TheVariants as op
use Rattle.mr_commit.specs.Line.{Line}
use Rattle.mr_commit.specs.Line.Line.{Does, Clears, Needs, Merges, MergesEach, MergesTasks, Seeks, Measures}

-- whether no line follows
abbrev pub is_single : Line → Bool
is_single (Does call) = true
is_single (Clears path) = true
is_single (Needs path) = true
is_single (Merges taken from to) = false
is_single (MergesEach from to) = false
is_single (MergesTasks from to) = false
is_single (Seeks dest task bytes k j) = false
is_single (Measures path bytes) = true

abbrev pub AllSingle : List Line → Type 0
AllSingle [] = Unit {0}
AllSingle (line ∷ rest) = (is_single line ≡ true) × AllSingle rest

-- a call that makes no entry and brings none further down
abbrev pub RaisesBy : Op → Type 0
RaisesBy (op.Delete path) = Unit {0}
RaisesBy (op.Rename from to) = length to ≤ length from
RaisesBy (op.List path) = Unit {0}
RaisesBy (op.Exists path) = Unit {0}
RaisesBy (op.Read path) = Unit {0}
RaisesBy (op.Bar a) = Unit {0}
RaisesBy (op.Mkdirs path) = ⊥
RaisesBy (op.Create path closed) = ⊥
RaisesBy (op.Append path bytes) = ⊥
RaisesBy (op.Close path) = ⊥

-- a line whose calls make no entry and bring none further down
abbrev pub Raises : Line → Type 0
Raises (Does call) = RaisesBy call
Raises (Clears path) = Unit {0}
Raises (Needs path) = Unit {0}
Raises (Merges taken from to) = length to ≤ length from
Raises (MergesEach from to) = length to ≤ length from
Raises (MergesTasks from to) = length to ≤ length from
Raises (Seeks dest task bytes k j) = Unit {0}
Raises (Measures path bytes) = Unit {0}

-- lines that raise entries, and then lines of one call each
abbrev pub Settles : List Line → Type 0
Settles [] = Unit {0}
Settles (line ∷ rest) = AllSingle (line ∷ rest) ⊎ (Raises line × Settles rest)
