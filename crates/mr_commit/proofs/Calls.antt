-- What calls of the namespace answer and leave.
use Rattle.std.proofs.Common.{◌≡◌, Bool, true, false, List, [], ◌∷◌, refl, ap, Option, Some, None, Result, Ok, Err, unwrap_or, if◌then◌else◌, ◌⊎◌, ⊎_elim}
use Rattle.mr_names.specs.declared.op.Caller.{Caller}
use Rattle.mr_names.specs.declared.fault.NameFault.{NameFault}
use Rattle.mr_names.specs.declared.fault.NameFault.TheVariants as names
use Rattle.mr_names.specs.declared.op.Op.{Op}
use Rattle.mr_names.specs.declared.op.Op.TheVariants as op
use Rattle.mr_names.specs.declared.op.Answer.{Answer}
use Rattle.std.specs.Option.{option_or}
use Rattle.mr_names.proofs.Callers.{unheard-is}
use Rattle.mr_names.specs.Calls.{State, first_of, refusal, own_refusal, passes_limit, unheard, refused, settled, call_of, answer, Makes, MakesAlways, may_want_memory}
use Rattle.mr_names_tree.specs.Content.{Content}
use Rattle.mr_commit.specs.Line.{is_answer_to}

-- what a call answers is an answer of this call
pub answers_own_call : (c : Content) (call : Op) → is_answer_to call (answer c call) ≡ true
answers_own_call c (op.Mkdirs path) = refl
answers_own_call c (op.Create path closed) = refl
answers_own_call c (op.Append path bytes) = refl
answers_own_call c (op.Close path) = refl
answers_own_call c (op.Delete path) = refl
answers_own_call c (op.Rename from to) = refl
answers_own_call c (op.List path) = refl
answers_own_call c (op.Exists path) = refl
answers_own_call c (op.Read path) = refl
answers_own_call c (op.Bar a) = refl

abbrev pub is_memory : NameFault → Bool
is_memory names.NoMemory = true
is_memory f = false

abbrev pub wants : Option NameFault → Bool
wants None = false
wants (Some f) = is_memory f

abbrev AllOwn : List (Bool × NameFault) → Type 0
AllOwn [] = Unit {0}
AllOwn (row ∷ rows) = (is_memory row.1 ≡ false) × AllOwn rows

first_own : (rows : List (Bool × NameFault)) → AllOwn rows → wants (first_of rows) ≡ false
first_own [] h = refl
first_own (row ∷ rows) h = by row.0 (first_own rows h.1)
  where
    by : (b : Bool) → wants (first_of rows) ≡ false → wants (if b then Some row.1 else first_of rows) ≡ false
    by true e = h.0
    by false e = e

refusal_own : (c : Content) (call : Op) → wants (refusal c call) ≡ false
refusal_own c (op.Mkdirs path) = first_own ((_, names.NotDir) ∷ (_, names.Full) ∷ []) (refl, (refl, tt))
refusal_own c (op.Create path closed) = first_own ((_, names.Exists) ∷ (_, names.NoParent) ∷ (_, names.NotDir) ∷ (_, names.Full) ∷ []) (refl, (refl, (refl, (refl, tt))))
refusal_own c (op.Append path bytes) = first_own ((_, names.Missing) ∷ (_, names.NotFile) ∷ (_, names.Closed) ∷ (_, names.Full) ∷ []) (refl, (refl, (refl, (refl, tt))))
refusal_own c (op.Close path) = first_own ((_, names.Missing) ∷ (_, names.NotFile) ∷ (_, names.Closed) ∷ []) (refl, (refl, (refl, tt)))
refusal_own c (op.Delete path) = first_own ((_, names.NoParent) ∷ (_, names.Missing) ∷ []) (refl, (refl, tt))
refusal_own c (op.Rename from to) = first_own ((_, names.Missing) ∷ (_, names.IntoItself) ∷ (_, names.Exists) ∷ (_, names.NoParent) ∷ (_, names.NotDir) ∷ []) (refl, (refl, (refl, (refl, (refl, tt)))))
refusal_own c (op.List path) = first_own ((_, names.Missing) ∷ (_, names.NotDir) ∷ []) (refl, (refl, tt))
refusal_own c (op.Exists path) = refl
refusal_own c (op.Read path) = first_own ((_, names.Missing) ∷ (_, names.NotFile) ∷ []) (refl, (refl, tt))
refusal_own c (op.Bar a) = refl

-- no call is refused by an allocation failure
pub refused_own : (s : State) (caller : Caller) (call : Op) → wants (refused s caller call) ≡ false
refused_own s caller call = by (unheard s caller) (λ why is. unheard-is s caller why is)
  where
    row : (b : Bool) → wants (if b then Some names.Full else refusal s.content call) ≡ false
    row true = refl
    row false = refusal_own s.content call

    by : (o : Option NameFault) → ((why : NameFault) → o ≡ Some why → (why ≡ names.Superseded s.fence) ⊎ (why ≡ names.Barred)) → wants (option_or o (own_refusal s call)) ≡ false
    by None is = row (passes_limit s.barred call)
    by (Some why) is = ⊎_elim (λ e. ap is_memory e) (λ e. ap is_memory e) (is why refl)

abbrev pub is_want : Result Answer NameFault → Bool
is_want (Ok a) = false
is_want (Err f) = is_memory f

-- what a function that makes a call answered: the call's answer, or an allocation failure
pub data Made (s : State) (caller : Caller) (call : Op) (r : Result Answer NameFault) (t : State) : Type 0 where
  as_call : call_of s caller call ≡ (r, t) → is_want r ≡ false → Made s caller call r t
  no_memory : r ≡ Err names.NoMemory → t ≡ s → refused s caller call ≡ None → may_want_memory s call ≡ true → Made s caller call r t

pub made : (s : State) (caller : Caller) (call : Op) (r : Result Answer NameFault) (t : State) → Makes (λ a. a) s caller call r t → (may_want_memory s call ≡ false → MakesAlways (λ a. a) s caller call r t) → Made s caller call r t
made s caller call (Ok a) t m always = as_call m refl
made s caller call (Err f) t m always = by (refused s caller call) refl (refused_own s caller call) m always
  where
    by : (o : Option NameFault) → refused s caller call ≡ o → wants o ≡ false → (f ≡ unwrap_or o names.NoMemory) × (t ≡ s) → (may_want_memory s call ≡ false → settled o s call ≡ (Err f, t)) → Made s caller call (Err f) t
    by (Some g) e own h always = as_call (rw e cc) (rw h.0 own)
    by None e own h always = memory (may_want_memory s call) refl
      where
        memory : (b : Bool) → may_want_memory s call ≡ b → Made s caller call (Err f) t
        memory true k = no_memory (ap (λ g. Err g) h.0) h.1 e k
        memory false k = let z : settled None s call ≡ (Err f, t) = always k in let y : Ok (answer s.content call) ≡ Err f = ap (λ p. p.0) z in absurd cc
