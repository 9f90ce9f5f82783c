-- Reading a job text.
use Rattle.std.proofs.Common.{◌≡◌, ◌^◌, ℕ, Bool, true, false, ◌&&◌, cond, nat_lt, nat_le, List, [], ◌∷◌, ◌++◌, length, Option, Some, None, Err, option_map, option_and_then, sym, ap, ◌∙◌, refl, append_assoc, ltb-true, suc, ◌<◌, ◌≤◌, map, arith, All, Vec, Global, leb-true}
use Rattle.std.specs.List.{slice_split}
use Rattle.std.specs.Str.{IsUtf8, is_utf8, bytes_eq}
use Rattle.std.specs.Cmp.Lexicographic.{same_text, bytes_decides}
use Rattle.std.proofs.lemmas.Bool.{and_parts, lt-ltb}
use Rattle.std.proofs.lemmas.Str.{IsUtf8-from_is_utf8}
use Rattle.std.proofs.lemmas.List.{length-map}
use Rattle.std.proofs.lemmas.List.Elements.{All-nil, All-cons, All-map}
use Rattle.serde_json.specs.Data.{Data, Items}
use Rattle.serde_json.specs.Read.{read}
use Rattle.serde_json.specs.View.{items_of, items_view, view}
use Rattle.serde_json.specs.declared.value.Value.{Value}
use Rattle.mr_ids.specs.declared.id.JobId.{JobId}
use Rattle.mr_ids.specs.Text.{is_bar, job_text, IsJob}
use Rattle.mr_ids.proofs.Texts.{digits_value-numeral, split-job_text}
use Rattle.mr_sim_commands.specs.declared.fault.JobTextFault.TheVariants as bad
use Rattle.mr_sim_commands.specs.job.Text.{◌>>=◌, at_most, each, if_spelled, is_job, job_from, job_named, required, submission_in, submission_of}

-- ---- the job whose text it is

job_in : (j : JobId) → IsJob j → is_job j ≡ true
job_in j h = rw (lt-ltb j.start (2 ^ 64) h.start, lt-ltb j.number (2 ^ 32) h.number) refl

told : (j : JobId) → job_from (slice_split is_bar (job_text j)) ≡ Some j
told j = ap job_from (split-job_text j) ∙ rw (digits_value-numeral 1 j.start, digits_value-numeral 4 j.number) refl

pub named : (j : JobId) → IsJob j → job_named (job_text j) ≡ Some j
unfolding job_named
named j h = ap (option_and_then (if_spelled (job_text j))) (told j) ∙ rw (job_in j h, (bytes_decides (job_text j) (job_text j)).1 refl) refl

pub named_is : (text : List ℕ) (j : JobId) → job_named text ≡ Some j → IsJob j × (text ≡ job_text j)
unfolding job_named
named_is text j e = by (job_from (slice_split is_bar text)) e
  where
    spelled : (i : JobId) (b t : Bool) → is_job i ≡ b → bytes_eq text (job_text i) ≡ t → cond (b && t) (Some i) None ≡ Some j → IsJob j × (text ≡ job_text j)
    spelled i true true hb ht e =
        let is : i ≡ j = cc in
        let p = and_parts (nat_lt i.start (2 ^ 64)) (nat_lt i.number (2 ^ 32)) hb in
        let ranges : IsJob i = record { start = ltb-true _ _ p.0; number = ltb-true _ _ p.1 } in
        (rw (sym is) ranges, same_text text (job_text i) (sym ht) ∙ ap job_text is)
    spelled i false t hb ht e = absurd (cc)
    spelled i true false hb ht e = absurd (cc)

    by : (o : Option JobId) → option_and_then (if_spelled text) o ≡ Some j → IsJob j × (text ≡ job_text j)
    by None e = absurd (cc)
    by (Some i) e = spelled i (is_job i) (bytes_eq text (job_text i)) refl refl e

pub not_named : (text : List ℕ) → ((j : JobId) → IsJob j → text ≡ job_text j → ⊥) → job_named text ≡ None
not_named text none = by (job_named text) refl
  where
    by : (o : Option JobId) → job_named text ≡ o → o ≡ None
    by None e = refl
    by (Some j) e = let is = named_is text j e in absurd (none j is.0 is.1)

-- ---- lists: what was read, before what is still to be read

abbrev pub with_front : {A : Type 0} → List A → Option (List A) → Option (List A)
with_front front rest = option_map (λ xs. front ++ xs) rest

pub front_none : {A : Type 0} (rest : Option (List A)) → with_front [] rest ≡ rest
front_none None = refl
front_none (Some xs) = refl

pub front_push : {A : Type 0} (front : List A) (x : A) (rest : Option (List A)) → with_front (front ++ x ∷ []) rest ≡ with_front front (option_map (λ xs. x ∷ xs) rest)
front_push front x None = refl
front_push front x (Some xs) = ap Some (append_assoc front (x ∷ []) xs)

-- as many are read as stand there
pub length-each : {A : Type 0} → (f : Data → Option A) (ds : List Data) (xs : List A) → each f (items_of ds) ≡ Some xs → length xs ≡ length ds
length-each f [] xs e = let is : [] ≡ xs = cc in rw (sym is) refl
length-each {A} f (d ∷ ds) xs e = by (f d) (each f (items_of ds)) (λ ys h. length-each f ds ys h) refl e
  where
    by : (o : Option A) (rest : Option (List A)) → ((ys : List A) → each f (items_of ds) ≡ Some ys → length ys ≡ length ds) → each f (items_of ds) ≡ rest → option_and_then (λ x. option_map (λ xs. x ∷ xs) rest) o ≡ Some xs → length xs ≡ suc (length ds)
    by None rest go h e = absurd (cc)
    by (Some x) None go h e = absurd (cc)
    by (Some x) (Some ys) go h e =
        let is : x ∷ ys ≡ xs = cc in
        rw (sym is) (ap suc (go ys h))

-- a list that is too long is none
too_long : {A : Type 0} (n : ℕ) (xs : List A) → n < length xs → at_most n xs ≡ None
too_long n xs h = by (nat_le (length xs) n) refl
  where
    by : (b : Bool) → nat_le (length xs) n ≡ b → cond b (Some xs) None ≡ None
    by true e = absurd (omega (arith, h, leb-true (length xs) n e))
    by false e = refl

pub too_many : {A : Type 0} (f : Data → Option A) (n : ℕ) (vs : List Value) → n < length vs → option_and_then (at_most n) (each f (items_view vs)) ≡ None
too_many f n vs h = by (each f (items_view vs)) refl
  where
    by : (o : Option (List _)) → each f (items_view vs) ≡ o → option_and_then (at_most n) o ≡ None
    by None e = refl
    by (Some xs) e = too_long n xs (rw (length-each f (map view vs) xs e ∙ length-map vs view) h)

pub refused_many : {A : Type 0} (f : Data → Option A) (n : ℕ) (vs : List Value) (o : Option Items) → Some (items_view vs) ≡ o → n < length vs → option_and_then (at_most n) (option_and_then (each f) o) ≡ None
refused_many f n vs o e h = rw (sym e) (too_many f n vs h)

-- ---- bytes

-- bytes that are no JSON text say no job
refused_at : (b : Bool) (r : Option Data) → (b ≡ true → r ≡ None) → (required bad.Text (cond b r None) >>= submission_in) ≡ Err bad.Text
refused_at true r h = rw (h refl) refl
refused_at false r h = refl

pub refused : (bytes : List ℕ) → (IsUtf8 bytes → read bytes ≡ None) → submission_of bytes ≡ Err bad.Text
unfolding submission_of
refused bytes h = refused_at (is_utf8 bytes) (read bytes) (λ u. h (IsUtf8-from_is_utf8 bytes u))
