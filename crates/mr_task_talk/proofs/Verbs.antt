-- The words of the verbs: each is told apart by its place among all.
use Rattle.std.proofs.Common.{◌≡◌, ◌<◌, ◌≤◌, ◌+◌, ◌∙◌, inl, inr, ℕ, Bool, true, false, List, [], ◌∷◌, ◌&&◌, not, eqb, refl, sym, ap, arith, rules}
use Rattle.std.specs.List.{list_all, slice_index_or}
use Rattle.std.proofs.Math.Nat.{eq-or-lt_of_le}
use Rattle.std.proofs.lemmas.Bool.{false≢true}
use Rattle.std.proofs.lemmas.Bool.Decides.{nat_tests}
use Rattle.mr_script.proofs.Words.{Lacks}
use Rattle.mr_task_talk.specs.Line.{verb_text}
use Rattle.mr_task_talk.specs.declared.line.Verb.{Verb}
use Rattle.mr_task_talk.specs.declared.line.Verb.TheVariants as verb

abbrev pub place_of : Verb → ℕ
place_of verb.Pending = 0
place_of verb.Poll = 1
place_of verb.Done = 2
place_of verb.Recorded = 3
place_of verb.Failed = 4
place_of verb.Ended = 5
place_of verb.Killed = 6
place_of verb.Lost = 7

abbrev pub verbs : List Verb
verbs = verb.Pending ∷ verb.Poll ∷ verb.Done ∷ verb.Recorded ∷ verb.Failed ∷ verb.Ended ∷ verb.Killed ∷ verb.Lost ∷ []

at_place : (v d : Verb) → v ≡ slice_index_or verbs (place_of v) d
at_place verb.Pending d = refl
at_place verb.Poll d = refl
at_place verb.Done d = refl
at_place verb.Recorded d = refl
at_place verb.Failed d = refl
at_place verb.Ended d = refl
at_place verb.Killed d = refl
at_place verb.Lost d = refl

pub placed : (v : Verb) → place_of v < 8
placed verb.Pending = search rules
placed verb.Poll = search rules
placed verb.Done = search rules
placed verb.Recorded = search rules
placed verb.Failed = search rules
placed verb.Ended = search rules
placed verb.Killed = search rules
placed verb.Lost = search rules

-- a word that is none of the first verbs, nor the next one, is none of these
pub other_place : (i : ℕ) (word next : List ℕ) (d : Verb) → ((v : Verb) → place_of v < i → word ≡ verb_text v → ⊥) → next ≡ verb_text (slice_index_or verbs i d) → (word ≡ next → ⊥) →
    (v : Verb) → place_of v < i + 1 → word ≡ verb_text v → ⊥
other_place i word next d earlier is differs v below e =
    let most : place_of v ≤ i = omega arith in
    elim (eq-or-lt_of_le most) [
      | inl same ↦ differs (e ∙ ap verb_text (at_place v d) ∙ ap (λ k. verb_text (slice_index_or verbs k d)) same ∙ sym is)
      | inr less ↦ earlier v less e
    ]

-- ---- no space stands in one

lacks_by : (b : ℕ) (w : List ℕ) → list_all (λ x. not (eqb x b)) w ≡ true → Lacks b w
lacks_by b [] h = tt
lacks_by b (x ∷ w) h = by (eqb x b) refl h (lacks_by b w)
  where
    by : (t : Bool) → eqb x b ≡ t → (not t && list_all (λ x. not (eqb x b)) w) ≡ true → (list_all (λ x. not (eqb x b)) w ≡ true → Lacks b w) → Lacks b (x ∷ w)
    by true e h go = absurd (false≢true h)
    by false e h go = (λ same. absurd (grind (arith, nat_tests)), go h)

pub verb_lacks : (v : Verb) → Lacks 32 (verb_text v)
verb_lacks verb.Pending = lacks_by 32 (verb_text verb.Pending) refl
verb_lacks verb.Poll = lacks_by 32 (verb_text verb.Poll) refl
verb_lacks verb.Done = lacks_by 32 (verb_text verb.Done) refl
verb_lacks verb.Recorded = lacks_by 32 (verb_text verb.Recorded) refl
verb_lacks verb.Failed = lacks_by 32 (verb_text verb.Failed) refl
verb_lacks verb.Ended = lacks_by 32 (verb_text verb.Ended) refl
verb_lacks verb.Killed = lacks_by 32 (verb_text verb.Killed) refl
verb_lacks verb.Lost = lacks_by 32 (verb_text verb.Lost) refl
