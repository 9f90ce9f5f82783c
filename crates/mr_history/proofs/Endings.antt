-- What stands in a line behind the text of its attempt, and that no two forms of it agree.
use Rattle.std.proofs.Common.{◌≡◌, ◌≢◌, ◌<◌, ◌^◌, ℕ, List, [], ◌∷◌, ◌++◌, codes, decimal, Some, None, get_or, refl, sym, ap, ap₂, ◌∙◌, arith, subst, inl, inr, ◌⊎◌}
use Rattle.std.proofs.lemmas.List.{append_cancel_left}
use Rattle.std.specs.List.{All}
use Rattle.std.proofs.lemmas.List.Elements.{recursion_from_All}
use Rattle.mr_ids.specs.Attempt.{Attempt}
use Rattle.mr_ids.specs.Text.{attempt_text, IsAttempt}
use Rattle.mr_history.specs.declared.record.Record.{Record}
use Rattle.mr_history.specs.declared.record.Record.TheVariants.{AttemptStarted, MapSucceeded, ReduceSucceeded, AttemptFailed, JobUnsuccessful}
use Rattle.mr_history.specs.Line.{line_of, InRange}
use Rattle.mr_history.specs.inner.Ending.{Ends}
use Rattle.mr_history.proofs.Cuts.{Lacks, no_cut, same_cut, attempt_lacks_quote}

-- what a line begins with, for an attempt and what stands behind it
abbrev pub told_line : Attempt → List ℕ → List ℕ
told_line a bytes = codes "{\"attempt\":\"" ++ (attempt_text a ++ 34 ∷ bytes)

both : (a b : Attempt) (bytes ending : List ℕ) → (b ≡ a) × (bytes ≡ ending) → told_line a bytes ≡ told_line b ending
both a b bytes ending h = ap₂ told_line (sym h.0) h.1

pub line_ends : (a : Attempt) (bytes : List ℕ) (r : Record) → Ends a bytes r → told_line a bytes ≡ line_of r
unfolding line_of
line_ends a bytes (AttemptStarted b node) h = both a b bytes _ h
line_ends a bytes (MapSucceeded b node incarnation) h = both a b bytes _ h
line_ends a bytes (ReduceSucceeded b None) h = both a b bytes _ h
line_ends a bytes (ReduceSucceeded b (Some n)) h = both a b bytes _ h
line_ends a bytes (AttemptFailed b) h = both a b bytes _ h
line_ends a bytes JobUnsuccessful h = absurd h

-- a line tells of an attempt, or that the job failed
pub record Telling (r : Record) : Type 0 where
  pub attempt : Attempt
  pub bytes : List ℕ
  pub range : IsAttempt attempt
  pub ends : Ends attempt bytes r

pub telling : (r : Record) → InRange r → (r ≡ JobUnsuccessful) ⊎ Telling r
telling (AttemptStarted a node) h = inr (record { attempt = a; bytes = _; range = h.0; ends = (refl, refl) })
telling (MapSucceeded a node incarnation) h = inr (record { attempt = a; bytes = _; range = h.0; ends = (refl, refl) })
telling (ReduceSucceeded a None) h = inr (record { attempt = a; bytes = _; range = h.0; ends = (refl, refl) })
telling (ReduceSucceeded a (Some n)) h = inr (record { attempt = a; bytes = _; range = h.0; ends = (refl, refl) })
telling (AttemptFailed a) h = inr (record { attempt = a; bytes = _; range = h; ends = (refl, refl) })
telling JobUnsuccessful h = inl refl

pub failed_line : (bytes : List ℕ) → codes "{\"event\":\"unsuccessful\"}" ≡ codes "{\"attempt\":\"" ++ bytes → ⊥
failed_line bytes e = let b : ◌≡◌ {A = ℕ} 101 97 = ap (λ (l : List ℕ). get_or l 2 0) e in omega arith

-- the bytes behind what each line of an attempt begins with
pub behind : (rest bytes : List ℕ) (a : Attempt) → codes "{\"attempt\":\"" ++ rest ≡ told_line a bytes → rest ≡ attempt_text a ++ 34 ∷ bytes
behind rest bytes a e = append_cancel_left (codes "{\"attempt\":\"") rest (attempt_text a ++ 34 ∷ bytes) e

pub quoted : (name rest bytes : List ℕ) (a : Attempt) → All (λ b. b ≢ 34) name → name ++ 34 ∷ rest ≡ attempt_text a ++ 34 ∷ bytes → (name ≡ attempt_text a) × (rest ≡ bytes)
quoted name rest bytes a h e = same_cut 34 name (attempt_text a) rest bytes (recursion_from_All (λ b. b ≢ 34) name h) (attempt_lacks_quote a) e

pub unquoted : (rest bytes : List ℕ) (a : Attempt) → All (λ b. b ≢ 34) rest → rest ≡ attempt_text a ++ 34 ∷ bytes → ⊥
unquoted rest bytes a h e = no_cut 34 (attempt_text a) bytes (subst (Lacks 34) e (recursion_from_All (λ b. b ≢ 34) rest h))

-- what a line tells of an attempt, given what it begins with
pub record Behind (rest : List ℕ) (r : Record) : Type 0 where
  pub attempt : Attempt
  pub bytes : List ℕ
  pub range : IsAttempt attempt
  pub ends : Ends attempt bytes r
  pub is : rest ≡ attempt_text attempt ++ 34 ∷ bytes

pub is_told : (text rest : List ℕ) (r : Record) → InRange r → text ≡ codes "{\"attempt\":\"" ++ rest → text ≡ line_of r → Behind rest r
unfolding line_of
is_told text rest r h begins e = elim (telling r h) [
  | inl failed ↦ absurd (failed_line rest (ap line_of (sym failed) ∙ sym e ∙ begins))
  | inr t ↦ record { attempt = t.attempt; bytes = t.bytes; range = t.range; ends = t.ends; is = behind rest t.bytes t.attempt (sym begins ∙ e ∙ sym (line_ends t.attempt t.bytes r t.ends)) }
]

-- ---- no two forms agree, by the first byte in which they differ

apart : (place b c : ℕ) (xs ys : List ℕ) → (b ≡ c → ⊥) → get_or xs place 0 ≡ b → get_or ys place 0 ≡ c → xs ≡ ys → ⊥
apart place b c xs ys other x y e = other (sym x ∙ ap (λ (l : List ℕ). get_or l place 0) e ∙ y)

-- behind `,"event":"started"`, as far as the forms need it
pub record OnlyStarted (a : Attempt) (text : List ℕ) (r : Record) : Type 0 where
  pub node : ℕ
  pub is : r ≡ AttemptStarted a node
  pub small : node < 2 ^ 32
  pub text_is : text ≡ decimal node ++ codes "}"

pub only_started : (a : Attempt) (text : List ℕ) (r : Record) → InRange r → Ends a (codes ",\"event\":\"started\",\"node\":" ++ text) r → OnlyStarted a text r
only_started a text (AttemptStarted b node) h e = record {
  node = node;
  is = ap (λ x. AttemptStarted x node) e.0;
  small = h.1;
  text_is = append_cancel_left (codes ",\"event\":\"started\",\"node\":") text (decimal node ++ codes "}") e.1;
}
only_started a text (MapSucceeded b node incarnation) h e = absurd (apart 10 115 109 _ _ (λ i. omega (arith, i)) refl refl e.1)
only_started a text (ReduceSucceeded b None) h e = absurd (apart 10 115 114 _ _ (λ i. omega (arith, i)) refl refl e.1)
only_started a text (ReduceSucceeded b (Some n)) h e = absurd (apart 2 101 98 _ _ (λ i. omega (arith, i)) refl refl e.1)
only_started a text (AttemptFailed b) h e = absurd (apart 10 115 102 _ _ (λ i. omega (arith, i)) refl refl e.1)
only_started a text JobUnsuccessful h e = absurd e

pub record OnlyMapped (a : Attempt) (text : List ℕ) (r : Record) : Type 0 where
  pub node : ℕ
  pub incarnation : ℕ
  pub is : r ≡ MapSucceeded a node incarnation
  pub small : node < 2 ^ 32
  pub few : incarnation < 2 ^ 32
  pub text_is : text ≡ decimal incarnation ++ 44 ∷ (codes "\"node\":" ++ (decimal node ++ codes "}"))

pub only_mapped : (a : Attempt) (text : List ℕ) (r : Record) → InRange r → Ends a (codes ",\"event\":\"map\",\"incarnation\":" ++ text) r → OnlyMapped a text r
only_mapped a text (MapSucceeded b node incarnation) h e = record {
  node = node;
  incarnation = incarnation;
  is = ap (λ x. MapSucceeded x node incarnation) e.0;
  small = h.1;
  few = h.2;
  text_is = append_cancel_left (codes ",\"event\":\"map\",\"incarnation\":") text (decimal incarnation ++ 44 ∷ (codes "\"node\":" ++ (decimal node ++ codes "}"))) e.1;
}
only_mapped a text (AttemptStarted b node) h e = absurd (apart 10 109 115 _ _ (λ i. omega (arith, i)) refl refl e.1)
only_mapped a text (ReduceSucceeded b None) h e = absurd (apart 10 109 114 _ _ (λ i. omega (arith, i)) refl refl e.1)
only_mapped a text (ReduceSucceeded b (Some n)) h e = absurd (apart 2 101 98 _ _ (λ i. omega (arith, i)) refl refl e.1)
only_mapped a text (AttemptFailed b) h e = absurd (apart 10 109 102 _ _ (λ i. omega (arith, i)) refl refl e.1)
only_mapped a text JobUnsuccessful h e = absurd e

pub record OnlyMeasured (a : Attempt) (text : List ℕ) (r : Record) : Type 0 where
  pub bytes : ℕ
  pub is : r ≡ ReduceSucceeded a (Some bytes)
  pub small : bytes < 2 ^ 32
  pub text_is : text ≡ decimal bytes ++ codes ",\"event\":\"reduce\"}"

pub only_measured : (a : Attempt) (text : List ℕ) (r : Record) → InRange r → Ends a (codes ",\"bytes\":" ++ text) r → OnlyMeasured a text r
only_measured a text (ReduceSucceeded b (Some n)) h e = record {
  bytes = n;
  is = ap (λ x. ReduceSucceeded x (Some n)) e.0;
  small = h.1;
  text_is = append_cancel_left (codes ",\"bytes\":") text (decimal n ++ codes ",\"event\":\"reduce\"}") e.1;
}
only_measured a text (AttemptStarted b node) h e = absurd (apart 2 98 101 _ _ (λ i. omega (arith, i)) refl refl e.1)
only_measured a text (MapSucceeded b node incarnation) h e = absurd (apart 2 98 101 _ _ (λ i. omega (arith, i)) refl refl e.1)
only_measured a text (ReduceSucceeded b None) h e = absurd (apart 2 98 101 _ _ (λ i. omega (arith, i)) refl refl e.1)
only_measured a text (AttemptFailed b) h e = absurd (apart 2 98 101 _ _ (λ i. omega (arith, i)) refl refl e.1)
only_measured a text JobUnsuccessful h e = absurd e

-- what has none of these is told without a number
pub data OnlyEnded (a : Attempt) (text : List ℕ) (r : Record) : Type 0 where
  reduced : r ≡ ReduceSucceeded a None → text ≡ codes ",\"event\":\"reduce\"}" → OnlyEnded a text r
  failed : r ≡ AttemptFailed a → text ≡ codes ",\"event\":\"failed\"}" → OnlyEnded a text r

pub only_ended : (a : Attempt) (text : List ℕ) (r : Record) → Ends a text r
    → ((rest : List ℕ) → text ≢ codes ",\"event\":\"started\",\"node\":" ++ rest)
    → ((rest : List ℕ) → text ≢ codes ",\"event\":\"map\",\"incarnation\":" ++ rest)
    → ((rest : List ℕ) → text ≢ codes ",\"bytes\":" ++ rest)
    → OnlyEnded a text r
only_ended a text (AttemptStarted b node) e one two three = absurd (one (decimal node ++ codes "}") e.1)
only_ended a text (MapSucceeded b node incarnation) e one two three = absurd (two (decimal incarnation ++ (codes ",\"node\":" ++ (decimal node ++ codes "}"))) e.1)
only_ended a text (ReduceSucceeded b None) e one two three = reduced (ap (λ x. ReduceSucceeded x None) e.0) e.1
only_ended a text (ReduceSucceeded b (Some n)) e one two three = absurd (three (decimal n ++ codes ",\"event\":\"reduce\"}") e.1)
only_ended a text (AttemptFailed b) e one two three = failed (ap AttemptFailed e.0) e.1
only_ended a text JobUnsuccessful e one two three = absurd e
