-- The entries that were read of a summary, and what is left of it.
use Rattle.std.proofs.Common.{◌≡◌, ◌<◌, ◌+◌, ℕ, suc, List, [], ◌∷◌, ◌++◌, take, length, get_or, refl, sym, ap, ◌∙◌, subst, arith, append_assoc, append-nil}
use Rattle.std.proofs.Math.Seq.{take-suc}
use Rattle.std.specs.List.{AllByRecursion}
use Rattle.mr_history.proofs.Cuts.{Lacks, no_cut, same_cut}
use Rattle.mr_ids.specs.declared.id.JobId.{JobId}
use Rattle.mr_log_entries.specs.declared.entry.Entry.{Entry}
use Rattle.mr_log_entries.specs.Texts.{entry_text, IsEntryOf}
use Rattle.mr_log_entries.proofs.Plain.{entry_lacks}
use Rattle.mr_log_layout.specs.Summaries.{summary_text}

pub summary-push : (es : List Entry) (e : Entry) → summary_text (es ++ e ∷ []) ≡ summary_text es ++ (entry_text e ++ 10 ∷ [])
unfolding summary_text
summary-push [] e = refl
summary-push (x ∷ es) e = ap (λ (l : List ℕ). entry_text x ++ 10 ∷ l) (summary-push es e) ∙ sym (append_assoc (entry_text x) (10 ∷ summary_text es) (entry_text e ++ 10 ∷ []))

pub summary-taken : (es : List Entry) (i : ℕ) (e : Entry) → i < length es → e ≡ get_or es i e → summary_text (take (i + 1) es) ≡ summary_text (take i es) ++ (entry_text e ++ 10 ∷ [])
summary-taken es i e inside is =
    let next : i + 1 ≡ suc i = omega arith in
    ap (λ (n : ℕ). summary_text (take n es)) next
    ∙ ap summary_text (take-suc es i e inside)
    ∙ ap (λ (x : Entry). summary_text (take i es ++ x ∷ [])) (sym is)
    ∙ summary-push (take i es) e

all-push : (j : JobId) (es : List Entry) (e : Entry) → AllByRecursion (IsEntryOf j) es → IsEntryOf j e → AllByRecursion (IsEntryOf j) (es ++ e ∷ [])
all-push j [] e all of = (of, tt)
all-push j (x ∷ es) e all of = (all.0, all-push j es e all.1 of)

-- the entries so far, and the bytes after them
pub record Front (j : JobId) (text : List ℕ) (es : List Entry) (rest : List ℕ) : Type 0 where
  pub is : text ≡ summary_text es ++ rest
  pub of : AllByRecursion (IsEntryOf j) es

pub no_front : (j : JobId) (text : List ℕ) → Front j text [] text
unfolding summary_text
no_front j text = record { is = refl; of = tt }

pub more_front : (j : JobId) (text rest own after : List ℕ) (es : List Entry) (e : Entry) → Front j text es rest → rest ≡ own ++ 10 ∷ after → own ≡ entry_text e → IsEntryOf j e → Front j text (es ++ e ∷ []) after
more_front j text rest own after es e front is same of = record {
  is = front.is ∙ ap (λ (x : List ℕ). summary_text es ++ x) (is ∙ ap (λ (x : List ℕ). x ++ 10 ∷ after) same ∙ sym (append_assoc (entry_text e) (10 ∷ []) after))
      ∙ sym (append_assoc (summary_text es) (entry_text e ++ 10 ∷ []) after) ∙ ap (λ (x : List ℕ). x ++ after) (sym (summary-push es e));
  of = all-push j es e front.of of;
}

-- of a text that tells these entries, what is left to be told
pub record Left (j : JobId) (whole so_far : List Entry) (rest : List ℕ) : Type 0 where
  pub entries : List Entry
  pub of : AllByRecursion (IsEntryOf j) entries
  pub whole_is : whole ≡ so_far ++ entries
  pub is : rest ≡ summary_text entries

pub all_left : (j : JobId) (whole : List Entry) (text : List ℕ) → AllByRecursion (IsEntryOf j) whole → text ≡ summary_text whole → Left j whole [] text
all_left j whole text all is = record { entries = whole; of = all; whole_is = refl; is = is }

-- the next entry of it
pub record Next (j : JobId) (whole so_far : List Entry) (own after : List ℕ) : Type 0 where
  pub entry : Entry
  pub of : IsEntryOf j entry
  pub is : own ≡ entry_text entry
  pub left : Left j whole (so_far ++ entry ∷ []) after

pub next_left : (j : JobId) (whole so_far : List Entry) (rest own after : List ℕ) → Lacks 10 own → rest ≡ own ++ 10 ∷ after → Left j whole so_far rest → Next j whole so_far own after
unfolding summary_text
next_left j whole so_far rest own after lacks cut left = by left.entries left.of left.whole_is left.is
  where
    by : (es : List Entry) → AllByRecursion (IsEntryOf j) es → whole ≡ so_far ++ es → rest ≡ summary_text es → Next j whole so_far own after
    by [] of w is = absurd (no_cut 10 own after (subst (Lacks 10) (sym is ∙ cut) tt))
    by (e ∷ es) of w is =
        let p = same_cut 10 own (entry_text e) after (summary_text es) lacks (entry_lacks e) (sym cut ∙ is) in
        record {
          entry = e;
          of = of.0;
          is = p.0;
          left = record { entries = es; of = of.1; whole_is = w ∙ sym (append_assoc so_far (e ∷ []) es); is = p.1 };
        }

pub none_left : (j : JobId) (whole so_far : List Entry) (rest : List ℕ) → Lacks 10 rest → Left j whole so_far rest → (so_far ≡ whole) × (rest ≡ [])
unfolding summary_text
none_left j whole so_far rest lacks left = by left.entries left.whole_is left.is
  where
    by : (es : List Entry) → whole ≡ so_far ++ es → rest ≡ summary_text es → (so_far ≡ whole) × (rest ≡ [])
    by [] w is = (sym (w ∙ append-nil so_far), is)
    by (e ∷ es) w is = absurd (no_cut 10 (entry_text e) (summary_text es) (subst (Lacks 10) is lacks))
