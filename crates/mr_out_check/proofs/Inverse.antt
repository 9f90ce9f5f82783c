-- A yes, back to what was listed: each premise is met, so a marker was noted, and it was listed in the directory itself.
use Rattle.std.proofs.Common.{◌≡◌, ℕ, Bool, true, false, ◌||◌, ◌==◌, List, [], ◌∷◌, Option, Some, None, is_some, if◌then◌else◌, refl, sym, ap, ◌∙◌, inl, inr, ◌⊎◌, codes, nat_eq}
use Rattle.std.specs.List.{list_any, starts_with}
use Rattle.std.specs.Str.{bytes_eq}
use Rattle.std.proofs.lemmas.Bool.Decides.{Decides-eqb}
use Rattle.std.proofs.lemmas.Slice.Eq.{slice_eq-Decides}
use Rattle.mr_paths.specs.Layout.{marker_name, temporary_name, is_hidden}
use Rattle.mr_script.specs.Lines.{before, after}
use Rattle.mr_out_listing.specs.Lines.{Sight}
use Rattle.mr_out_listing.specs.declared.entry.Kind.{Kind}
use Rattle.mr_out_listing.specs.declared.entry.Kind.TheVariants.{File, Directory, Closed, Other}
use Rattle.mr_out_check.specs.declared.class.Class.{Class}
use Rattle.mr_out_check.specs.declared.class.Class.TheVariants as class
use Rattle.mr_out_check.specs.declared.premise.Premise.{Premise}
use Rattle.mr_out_check.specs.declared.premise.Premise.TheVariants as premise
use Rattle.mr_out_check.specs.declared.premise.Standing.{Standing}
use Rattle.mr_out_check.specs.declared.premise.Standing.TheVariants.{Met, Open, Broken}
use Rattle.mr_out_check.specs.declared.told.Told.{Told}
use Rattle.mr_out_check.specs.declared.verdict.Answer.{Answer}
use Rattle.mr_out_check.specs.declared.verdict.Answer.TheVariants.{Yes, No, ItDepends}
use Rattle.mr_out_check.specs.Classes.{attempt_class, below_class, class_by, class_of, file_class, folder_class, hidden_class, is_commit_mark, is_hive, is_spark, marker_class, part_behind, place_of, same_class, task_class, temporary_class, top_class, visible_class, work_class}
use Rattle.mr_out_check.specs.Seen.{Noted, Seen, classed, counted, noted, nothing, seen_all, seen_with, tallied}
use Rattle.mr_out_check.specs.Verdicts.{answer, came, premises, same_standing, some_stands, standing}
use Rattle.mr_out_check.specs.Laws.{Among, YesMeansMarked, YesMeansMet, the_marker}

-- ---- each premise is met

not_both : (b c : Bool) → (if b then No else if c then ItDepends else Yes) ≡ Yes → (b ≡ false) × (c ≡ false)
not_both true c h = absurd (cc)
not_both false true h = absurd (cc)
not_both false false h = (refl, refl)

neither : (a b : Bool) → (a || b) ≡ false → (a ≡ false) × (b ≡ false)
neither true b h = absurd (cc)
neither false b h = (refl, h)

met_one : (at : Standing) → same_standing at Broken ≡ false → same_standing at Open ≡ false → at ≡ Met
met_one Met h g = refl
met_one Open h g = absurd (cc)
met_one Broken h g = absurd (cc)

abbrev AllFalse : (Premise → Bool) → List Premise → Type 0
AllFalse f [] = Unit {0}
AllFalse f (p ∷ ps) = (f p ≡ false) × AllFalse f ps

all-false : (f : Premise → Bool) (ps : List Premise) → list_any f ps ≡ false → AllFalse f ps
all-false f [] h = tt
all-false f (p ∷ ps) h =
    let parts = neither (f p) (list_any f ps) h in
    (parts.0, all-false f ps parts.1)

picked : (f : Premise → Bool) (p : Premise) → AllFalse f premises → f p ≡ false
picked f premise.Marker a = a.0
picked f premise.WorkDone a = a.1.0
picked f premise.Tasks a = a.1.1.0
picked f premise.Numbers a = a.1.1.1.0
picked f premise.Family a = a.1.1.1.1.0
picked f premise.Names a = a.1.1.1.1.1.0
picked f premise.Mrout a = a.1.1.1.1.1.1.0
picked f premise.AppAttempts a = a.1.1.1.1.1.1.1.0
picked f premise.TaskAttempts a = a.1.1.1.1.1.1.1.1.0
picked f premise.Algorithm a = a.1.1.1.1.1.1.1.1.1.0
picked f premise.Store a = a.1.1.1.1.1.1.1.1.1.1.0
picked f premise.Order a = a.1.1.1.1.1.1.1.1.1.1.1.0

pub yes-met : YesMeansMet
yes-met seen told p h =
    let parts = not_both (some_stands Broken seen told) (some_stands Open seen told) h in
    met_one (standing p seen told)
    (picked (λ q. same_standing (standing q seen told) Broken) p (all-false (λ q. same_standing (standing q seen told) Broken) premises parts.0))
    (picked (λ q. same_standing (standing q seen told) Open) p (all-false (λ q. same_standing (standing q seen told) Open) premises parts.1))

-- ---- which names are of the marker's class

is_marker : (c : Class) → same_class c class.Marker ≡ true → c ≡ class.Marker
is_marker class.Marker h = refl
is_marker class.MarkerWithBytes h = absurd (cc)
is_marker class.MarkerFolder h = absurd (cc)
is_marker class.ReducePart h = absurd (cc)
is_marker class.MapPart h = absurd (cc)
is_marker class.PlainPart h = absurd (cc)
is_marker class.Temporary h = absurd (cc)
is_marker class.TemporaryClosed h = absurd (cc)
is_marker class.Generation h = absurd (cc)
is_marker class.CommittedTask h = absurd (cc)
is_marker class.TaskAttempt h = absurd (cc)
is_marker class.OtherWork h = absurd (cc)
is_marker class.Mrout h = absurd (cc)
is_marker class.Spark h = absurd (cc)
is_marker class.Hive h = absurd (cc)
is_marker class.Partition h = absurd (cc)
is_marker class.CommitMark h = absurd (cc)
is_marker class.DeltaLog h = absurd (cc)
is_marker class.Hidden h = absurd (cc)
is_marker class.Folder h = absurd (cc)
is_marker class.InFolder h = absurd (cc)
is_marker class.Foreign h = absurd (cc)

same_bytes : (xs ys : List ℕ) → bytes_eq xs ys ≡ true → xs ≡ ys
same_bytes xs ys h = (slice_eq-Decides Decides-eqb xs ys _ refl).0 h

abbrev IsNone : Class → Type 0
IsNone c = c ≡ class.Marker → ⊥

either : (b : Bool) (c d : Class) → IsNone c → IsNone d → IsNone (if b then c else d)
either true c d h g = h
either false c d h g = g

attempt-none : (front : List ℕ) (o : Option (List ℕ)) → IsNone (attempt_class front o)
attempt-none front None = either (bytes_eq front temporary_name) class.TaskAttempt class.OtherWork (λ e. cc) (λ e. cc)
attempt-none front (Some rest) = λ e. cc

task-none : (name : List ℕ) (o : Option (List ℕ)) → IsNone (task_class name o)
task-none name None = either (starts_with nat_eq name (codes "task_")) class.CommittedTask class.OtherWork (λ e. cc) (λ e. cc)
task-none name (Some rest) = attempt-none (before 47 name) (after 47 rest)

work-none : (o : Option (List ℕ)) → IsNone (work_class o)
work-none None = λ e. cc
work-none (Some name) = task-none name (after 47 name)

by4 : (a b c d : Bool) (w : Class) → IsNone w → IsNone (if a then w else if b then class.Mrout else if c then class.DeltaLog else if d then class.Hidden else class.InFolder)
by4 true b c d w h = h
by4 false true c d w h = λ e. cc
by4 false false true d w h = λ e. cc
by4 false false false true w h = λ e. cc
by4 false false false false w h = λ e. cc

below-none : (front rest : List ℕ) → IsNone (below_class front rest)
below-none front rest = by4 (bytes_eq front temporary_name) (bytes_eq front (codes "_mrout")) (bytes_eq front (codes "_delta_log")) (is_hidden front) (work_class (after 47 rest)) (work-none (after 47 rest))

temporary-none : (kind : Kind) → IsNone (temporary_class kind)
temporary-none Closed = λ e. cc
temporary-none File = λ e. cc
temporary-none Directory = λ e. cc
temporary-none Other = λ e. cc

hidden-by : (w : Class) → IsNone w → (a b c d : Bool) → IsNone (if a then w else if b then class.Mrout else if c then class.DeltaLog else if d then class.CommitMark else class.Hidden)
hidden-by w h true b c d = h
hidden-by w h false true c d = λ e. cc
hidden-by w h false false true d = λ e. cc
hidden-by w h false false false true = λ e. cc
hidden-by w h false false false false = λ e. cc

hidden-none : (kind : Kind) (name : List ℕ) → IsNone (hidden_class kind name)
hidden-none kind name = hidden-by (temporary_class kind) (temporary-none kind) (bytes_eq name temporary_name) (bytes_eq name (codes "_mrout")) (bytes_eq name (codes "_delta_log")) (is_commit_mark name)

file-by : (a b c d f : Bool) → IsNone (if a then class.ReducePart else if b then class.MapPart else if c then class.PlainPart else if d then class.Spark else if f then class.Hive else class.Foreign)
file-by true b c d f = λ e. cc
file-by false true c d f = λ e. cc
file-by false false true d f = λ e. cc
file-by false false false true f = λ e. cc
file-by false false false false true = λ e. cc
file-by false false false false false = λ e. cc

file-none : (name : List ℕ) → IsNone (file_class name)
file-none name = file-by (is_some (part_behind (codes "part-r-") name)) (is_some (part_behind (codes "part-m-") name)) (is_some (part_behind (codes "part-") name)) (is_spark name) (is_hive name)

visible-none : (kind : Kind) (name : List ℕ) → IsNone (visible_class kind name)
visible-none File name = file-none name
visible-none Directory name = either (list_any (λ b. b == 61) name) class.Partition class.Folder (λ e. cc) (λ e. cc)
visible-none Closed name = either (list_any (λ b. b == 61) name) class.Partition class.Folder (λ e. cc) (λ e. cc)
visible-none Other name = λ e. cc

-- the kind is a file's, it has no byte, and it is the marker's name
record IsTheMarker (kind : Kind) (empty : Bool) (name : List ℕ) : Type 0 where
  pub file : kind ≡ File
  pub no_byte : empty ≡ true
  pub named : name ≡ marker_name

of_marker : (kind : Kind) (empty : Bool) (name : List ℕ) → name ≡ marker_name → marker_class kind empty ≡ class.Marker → IsTheMarker kind empty name
of_marker File true name n h = record { file = refl; no_byte = refl; named = n }
of_marker File false name n h = absurd (cc)
of_marker Directory empty name n h = absurd (cc)
of_marker Closed empty name n h = absurd (cc)
of_marker Other empty name n h = absurd (cc)

top-is : (kind : Kind) (empty : Bool) (name : List ℕ) → top_class kind empty name ≡ class.Marker → IsTheMarker kind empty name
top-is kind empty name h = by (bytes_eq name marker_name) refl h where
  by : (b : Bool) → bytes_eq name marker_name ≡ b → (if b then marker_class kind empty else if is_hidden name then hidden_class kind name else visible_class kind name) ≡ class.Marker → IsTheMarker kind empty name
  by true e g = of_marker kind empty name (same_bytes name marker_name e) g
  by false e g = absurd (either (is_hidden name) (hidden_class kind name) (visible_class kind name) (hidden-none kind name) (visible-none kind name) g)

class-is : (o : Option (List ℕ)) (kind : Kind) (empty : Bool) (name : List ℕ) → class_by o kind empty name ≡ class.Marker → IsTheMarker kind empty name
class-is None kind empty name h = top-is kind empty name h
class-is (Some rest) kind empty name h = absurd (below-none (before 47 name) rest h)

made : (k : Kind) (b : Bool) (p : List ℕ) → k ≡ File → b ≡ true → p ≡ marker_name → record { kind = k; empty = b; path = p } ≡ the_marker
made k b p e f g = cc

sight-is : (x : Sight) → class_of x.kind x.empty x.path ≡ class.Marker → x ≡ the_marker
sight-is x h =
    let is = class-is (after 47 x.path) x.kind x.empty x.path h in
    made x.kind x.empty x.path is.file is.no_byte is.named

-- ---- what was noted came

abbrev marks : Noted → Bool
marks n = same_class n.class class.Marker

or-false : (a : Bool) → (a || false) ≡ true → a ≡ true
or-false true h = refl
or-false false h = h

or-left : (a b : Bool) → a ≡ true → (a || b) ≡ true
or-left true b h = refl
or-left false b h = absurd (cc)

or-right : (a b : Bool) → b ≡ true → (a || b) ≡ true
or-right true b h = refl
or-right false b h = h

split-or : (a b : Bool) → (a || b) ≡ true → (a ≡ true) ⊎ (b ≡ true)
split-or true b h = inl refl
split-or false b h = inr h

came-noted : (c : Class) (name : List ℕ) (ns : List Noted) → list_any marks (noted c name ns) ≡ true → (same_class c class.Marker ≡ true) ⊎ (list_any marks ns ≡ true)
came-noted c name [] h = inl (or-false (same_class c class.Marker) h)
came-noted c name (n ∷ ns) h = by (same_class n.class c) h (came-noted c name ns) where
  behind : (list_any marks ns ≡ true) → list_any marks (n ∷ ns) ≡ true
  behind g = or-right (marks n) (list_any marks ns) g

  later : (same_class c class.Marker ≡ true) ⊎ (list_any marks ns ≡ true) → (same_class c class.Marker ≡ true) ⊎ (list_any marks (n ∷ ns) ≡ true)
  later (inl g) = inl g
  later (inr g) = inr (or-right (marks n) (list_any marks ns) g)

  of_two : (marks n ≡ true) ⊎ (list_any marks (noted c name ns) ≡ true) → (list_any marks (noted c name ns) ≡ true → (same_class c class.Marker ≡ true) ⊎ (list_any marks ns ≡ true)) → (same_class c class.Marker ≡ true) ⊎ (list_any marks (n ∷ ns) ≡ true)
  of_two (inl g) more = inr (or-left (marks n) (list_any marks ns) g)
  of_two (inr g) more = later (more g)

  by : (b : Bool) → list_any marks (if b then counted n ∷ ns else n ∷ noted c name ns) ≡ true → (list_any marks (noted c name ns) ≡ true → (same_class c class.Marker ≡ true) ⊎ (list_any marks ns ≡ true)) → (same_class c class.Marker ≡ true) ⊎ (list_any marks (n ∷ ns) ≡ true)
  by true g more = inr g
  by false g more = of_two (split-or (marks n) (list_any marks (noted c name ns)) g) more

came-with : (x : Sight) (xs : List Sight) (s : Seen) → Among the_marker xs ⊎ (came class.Marker (seen_with x s) ≡ true) → Among the_marker (x ∷ xs) ⊎ (came class.Marker s ≡ true)
came-with x xs s (inl a) = inl (inr a)
came-with x xs s (inr was) = of_name (came-noted (class_of x.kind x.empty x.path) x.path s.notes was) where
  of_name : (same_class (class_of x.kind x.empty x.path) class.Marker ≡ true) ⊎ (came class.Marker s ≡ true) → Among the_marker (x ∷ xs) ⊎ (came class.Marker s ≡ true)
  of_name (inl same) = inl (inl (sight-is x (is_marker (class_of x.kind x.empty x.path) same)))
  of_name (inr older) = inr older

came-all : (xs : List Sight) (s : Seen) → came class.Marker (seen_all xs s) ≡ true → Among the_marker xs ⊎ (came class.Marker s ≡ true)
came-all [] s h = inr h
came-all (x ∷ xs) s h = came-with x xs s (came-all xs (seen_with x s) h)

of_nothing : (xs : List Sight) → Among the_marker xs ⊎ (false ≡ true) → Among the_marker xs
of_nothing xs (inl a) = a
of_nothing xs (inr e) = absurd (cc)

met-marker : (a b : Bool) → (if a then Met else if b then Open else Broken) ≡ Met → a ≡ true
met-marker true b h = refl
met-marker false true h = absurd (cc)
met-marker false false h = absurd (cc)

pub yes-marked : YesMeansMarked
yes-marked sights told h =
    let seen = seen_all sights nothing in
    of_nothing sights (came-all sights nothing (met-marker (came class.Marker seen) (came class.MarkerWithBytes seen) (yes-met seen told premise.Marker h)))
