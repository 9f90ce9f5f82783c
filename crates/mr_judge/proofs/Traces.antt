-- A line of a trace is told by its parts.
use Rattle.std.proofs.Common.{inl, inr, IfSome, IfNone, ◌≡◌, ◌≢◌, ◌<◌, ◌^◌, ℕ, Bool, true, false, List, [], ◌∷◌, ◌++◌, ◌&&◌, not, eqb, Option, Some, None, codes, decimal, refl, sym, ap, subst, ◌∙◌, arith}
use Rattle.std.specs.List.{AllByRecursion, flat_map, list_all}
use Rattle.std.specs.Char.{is_ascii_digit}
use Rattle.std.proofs.lemmas.Bool.{false≢true}
use Rattle.std.proofs.lemmas.Bool.Decides.{nat_tests}
use Rattle.std.proofs.lemmas.List.Elements.{recursion_from_All}
use Rattle.percent_encoding.specs.AsciiSet.{should_percent_encode}
use Rattle.percent_encoding.proofs.PercentLemmas.{All-percent_encode}
use Rattle.mr_ids.specs.Attempt.{Attempt}
use Rattle.mr_ids.proofs.Numerals.{numeral_digits}
use Rattle.mr_ids.proofs.Shown.{decimal-numeral}
use Rattle.mr_names.specs.declared.op.Caller.{Caller}
use Rattle.mr_names.specs.declared.op.Op.{Op}
use Rattle.mr_script.specs.Lines.{before, after, IsNoLine}
use Rattle.mr_script.specs.Script.{IsGeneration}
use Rattle.mr_script.specs.Words.{with_word}
use Rattle.mr_script.proofs.Attempts.{no_space-attempt_word}
use Rattle.mr_script.proofs.Numbers.{low, no-space}
use Rattle.mr_script.proofs.Words.{Lacks, front-is, no-cut, rest-is}
use Rattle.mr_call_words.specs.declared.word.TheConstants.{ESCAPED}
use Rattle.mr_call_words.specs.Words.{IsCall, call_line, call_words, line_of, word}
use Rattle.mr_judge.specs.declared.line.Told.{Told}
use Rattle.mr_judge.specs.declared.line.Told.TheVariants.{Raised, Called}
use Rattle.mr_judge.specs.Trace.{IsLine, IsWho, told_line, who_word}
use Rattle.mr_judge.specs.inner.Reading.{ReadsAnswered, ReadsCalled, ReadsSaid, ReadsTold, rest_line}

lacks_by : (b : ℕ) (w : List ℕ) → list_all (λ x. not (eqb x b)) w ≡ true → Lacks b w
lacks_by b [] h = tt
lacks_by b (x ∷ w) h = by (eqb x b) refl h (lacks_by b w)
  where
    by : (t : Bool) → eqb x b ≡ t → (not t && list_all (λ x. not (eqb x b)) w) ≡ true → (list_all (λ x. not (eqb x b)) w ≡ true → Lacks b w) → Lacks b (x ∷ w)
    by true e h go = absurd (false≢true h)
    by false e h go = (λ same. absurd (grind (arith, nat_tests)), go h)

lacks_both : (b : ℕ) (xs ys : List ℕ) → Lacks b xs → Lacks b ys → Lacks b (xs ++ ys)
lacks_both b [] ys h k = k
lacks_both b (x ∷ xs) ys h k = (h.0, lacks_both b xs ys h.1 k)

raise_lacks : Lacks 32 (codes "raise")
raise_lacks = lacks_by 32 (codes "raise") refl

who_lacks : (who : Option Attempt) → Lacks 32 (who_word who)
who_lacks None = lacks_by 32 (codes "none") refl
who_lacks (Some a) = no_space-attempt_word a

colon_escaped : should_percent_encode ESCAPED 58 ≡ true
unfolding should_percent_encode
colon_escaped = refl

word_lacks : (bytes : List ℕ) → Lacks 58 (word bytes)
word_lacks bytes =
    recursion_from_All (λ b. b ≢ 58) (word bytes)
    (All-percent_encode (λ b. b ≢ 58) ESCAPED bytes (λ b kept e. false≢true (sym kept ∙ ap (should_percent_encode ESCAPED) e ∙ colon_escaped)) (λ b h e. grind arith))

rest_lacks : (words : List (List ℕ)) → Lacks 58 (flat_map (λ bytes. 32 ∷ word bytes) words)
rest_lacks [] = tt
rest_lacks (w ∷ words) = lacks_both 58 (32 ∷ word w) (flat_map (λ bytes. 32 ∷ word bytes) words) (λ e. absurd (omega arith), word_lacks w) (rest_lacks words)

line_lacks : (words : List (List ℕ)) → Lacks 58 (line_of words)
line_lacks [] = tt
line_lacks (w ∷ words) = lacks_both 58 (word w) (flat_map (λ bytes. 32 ∷ word bytes) words) (word_lacks w) (rest_lacks words)

call_lacks : (call : Op) → Lacks 58 (call_line call)
unfolding call_line
call_lacks call = line_lacks (call_words call)

raise_is_no_number : (k : ℕ) → IsGeneration k → codes "raise" ≡ decimal k → ⊥
raise_is_no_number k h e = false≢true (ap (list_all is_ascii_digit) e ∙ ap (list_all is_ascii_digit) (decimal-numeral k (low k h)) ∙ numeral_digits 1 k)

-- ---- behind the generation

pub no_who : (app : ℕ) (rest : List ℕ) → after 32 rest ≡ None → ReadsCalled app rest None
no_who app rest none = λ who call answer w h e. no-cut 32 rest (who_word who) (call_line call ++ 58 ∷ 32 ∷ answer) (who_lacks who) none e

pub other_who : (app : ℕ) (rest front : List ℕ) → before 32 rest ≡ front → ((who : Option Attempt) → IsWho who → front ≡ who_word who → ⊥) → ReadsCalled app rest None
other_who app rest front cut none = λ who call answer w h e. none who w (front-is 32 rest front (who_word who) (call_line call ++ 58 ∷ 32 ∷ answer) (who_lacks who) cut e)

pub no_colon : (caller : Caller) (behind : List ℕ) → after 58 behind ≡ None → ReadsSaid caller behind None
no_colon caller behind none = λ call answer h e. no-cut 58 behind (call_line call) (32 ∷ answer) (call_lacks call) none e

pub no_blank : (caller : Caller) (behind last : List ℕ) → after 58 behind ≡ Some last → ((answer : List ℕ) → last ≡ 32 ∷ answer → ⊥) → ReadsSaid caller behind None
no_blank caller behind last cut none = λ call answer h e. none answer (rest-is 58 behind last (call_line call) (32 ∷ answer) (call_lacks call) cut e)

pub said : (caller : Caller) (behind text last answer : List ℕ) (found : Option Told) → before 58 behind ≡ text → behind ≡ text ++ 58 ∷ last → last ≡ 32 ∷ answer → ReadsAnswered caller text answer found → ReadsSaid caller behind found
said caller behind text last answer None cut whole blank reads = λ call other h e. reads call h (front-is 58 behind text (call_line call) (32 ∷ other) (call_lacks call) cut e)
said caller behind text last answer (Some told) cut whole blank reads =
    (reads.0, answer, reads.1, whole ∙ ap (λ t. t ++ 58 ∷ last) reads.2 ∙ ap (λ l. call_line reads.0 ++ 58 ∷ l) blank, reads.3)

pub called : (app : ℕ) (who : Option Attempt) (rest front behind : List ℕ) (found : Option Told) → IsWho who → front ≡ who_word who → rest ≡ front ++ 32 ∷ behind → after 32 rest ≡ Some behind →
    ReadsSaid (record { app = app; attempt = who }) behind found → ReadsCalled app rest found
called app who rest front behind None w is whole cut reads = λ o call said ow h e.
    reads call said h (rest-is 32 rest behind (who_word o) (call_line call ++ 58 ∷ 32 ∷ said) (who_lacks o) cut e)
called app who rest front behind (Some told) w is whole cut reads =
    (who, reads.0, reads.1, w, reads.2, whole ∙ ap (λ f. f ++ 32 ∷ behind) is ∙ ap (λ b. who_word who ++ 32 ∷ b) reads.3, reads.4)

-- ---- the whole line

pub no_word : (line : List ℕ) → after 32 line ≡ None → IsNoLine IsLine line
no_word line none (Raised k) h = no-cut 32 line (codes "raise") (decimal k) raise_lacks none h.1
no_word line none (Called caller call answer) h = no-cut 32 line (decimal caller.app) (rest_line caller.attempt call answer) (no-space caller.app (low caller.app h.0.0)) none h.1

pub told_some : (line word rest : List ℕ) (told : Told) → line ≡ word ++ 32 ∷ rest → ReadsTold word rest (Some told) → IsLine line told
told_some line word rest told whole reads =
    elim reads [
      | inl r ↦ subst (IsLine line) (sym r.4) (r.1, whole ∙ ap (λ w. w ++ 32 ∷ rest) r.2 ∙ ap (λ l. codes "raise" ++ 32 ∷ l) r.3)
      | inr c ↦ subst (IsLine line) (sym c.3.6) ((c.1, c.3.3, c.3.4), whole ∙ ap (λ w. w ++ 32 ∷ rest) c.2 ∙ ap (λ r. decimal c.0 ++ 32 ∷ r) c.3.5)
    ]

pub told_none : (line word rest : List ℕ) → before 32 line ≡ word → after 32 line ≡ Some rest → ReadsTold word rest None → IsNoLine IsLine line
told_none line word rest cut next none (Raised k) h =
    none.0 (front-is 32 line word (codes "raise") (decimal k) raise_lacks cut h.1) k h.0 (rest-is 32 line rest (codes "raise") (decimal k) raise_lacks next h.1)
told_none line word rest cut next none (Called caller call answer) h =
    let lacks = no-space caller.app (low caller.app h.0.0) in
    none.1 caller.app h.0.0 (front-is 32 line word (decimal caller.app) (rest_line caller.attempt call answer) lacks cut h.1) caller.attempt call answer h.0.1 h.0.2
    (rest-is 32 line rest (decimal caller.app) (rest_line caller.attempt call answer) lacks next h.1)

-- a fence alone
pub fence : (word rest : List ℕ) (found : Option Told) → word ≡ codes "raise" → IfSome found (λ told. (k : ℕ) × IsGeneration k × (rest ≡ decimal k) × (told ≡ Raised k)) →
    IfNone found ((k : ℕ) → IsGeneration k → rest ≡ decimal k → ⊥) → ReadsTold word rest found
fence word rest None is some none = (λ _. none, λ k h e. absurd (raise_is_no_number k h (sym is ∙ e)))
fence word rest (Some told) is some none = inl (some.0, some.1, is, some.2, some.3)

-- a call
pub call_told : (word rest : List ℕ) (app : ℕ) (found : Option Told) → (word ≡ codes "raise" → ⊥) → IsGeneration app → word ≡ decimal app → ((k : ℕ) → IsGeneration k → word ≡ decimal k → k ≡ app) → ReadsCalled app rest found → ReadsTold word rest found
call_told word rest app None other h is one reads = (λ e. absurd (other e), λ k g e. subst (λ j. ReadsCalled j rest None) (sym (one k g e)) reads)
call_told word rest app (Some told) other h is one reads = inr (app, h, is, reads)

pub told_by_none : (word rest : List ℕ) → (word ≡ codes "raise" → ⊥) → ((k : ℕ) → IsGeneration k → word ≡ decimal k → ⊥) → ReadsTold word rest None
told_by_none word rest other none = (λ e. absurd (other e), λ k g e. absurd (none k g e))
