-- The lines that were read of a text, and what is left of it.
use Rattle.std.proofs.Common.{◌≡◌, ℕ, List, [], ◌∷◌, ◌++◌, refl, sym, ap, ◌∙◌, subst, append_assoc, append-nil, suc, ◌+◌, ◌<◌, take, length, get_or, arith}
use Rattle.std.proofs.Math.Seq.{take-suc}
use Rattle.std.specs.List.{AllByRecursion}
use Rattle.mr_history.proofs.Cuts.{Lacks, no_cut, same_cut}
use Rattle.mr_ids.specs.declared.id.JobId.{JobId}
use Rattle.mr_log_entries.specs.declared.line.Line.{Line}
use Rattle.mr_log_entries.specs.Texts.{line_text, lines_text, IsLineOf}
use Rattle.mr_log_entries.proofs.Lacking.{line_lacks}

pub lines-push : (lines : List Line) (line : Line) → lines_text (lines ++ line ∷ []) ≡ lines_text lines ++ (line_text line ++ 59 ∷ [])
unfolding lines_text
lines-push [] line = refl
lines-push (l ∷ lines) line = ap (λ (x : List ℕ). line_text l ++ 59 ∷ x) (lines-push lines line) ∙ sym (append_assoc (line_text l) (59 ∷ lines_text lines) (line_text line ++ 59 ∷ []))

pub lines-taken : (lines : List Line) (i : ℕ) (line : Line) → i < length lines → line ≡ get_or lines i line → lines_text (take (i + 1) lines) ≡ lines_text (take i lines) ++ (line_text line ++ 59 ∷ [])
lines-taken lines i line inside is =
    let next : i + 1 ≡ suc i = omega arith in
    ap (λ (n : ℕ). lines_text (take n lines)) next
    ∙ ap lines_text (take-suc lines i line inside)
    ∙ ap (λ (x : Line). lines_text (take i lines ++ x ∷ [])) (sym is)
    ∙ lines-push (take i lines) line

pub all-push : (j : JobId) (lines : List Line) (line : Line) → AllByRecursion (IsLineOf j) lines → IsLineOf j line → AllByRecursion (IsLineOf j) (lines ++ line ∷ [])
all-push j [] line all of = (of, tt)
all-push j (l ∷ lines) line all of = (all.0, all-push j lines line all.1 of)

-- the lines so far, and the bytes after them
pub record Front (j : JobId) (text : List ℕ) (lines : List Line) (rest : List ℕ) : Type 0 where
  pub is : text ≡ lines_text lines ++ rest
  pub of : AllByRecursion (IsLineOf j) lines

pub no_front : (j : JobId) (text : List ℕ) → Front j text [] text
unfolding lines_text
no_front j text = record { is = refl; of = tt }

pub more_front : (j : JobId) (text rest own after : List ℕ) (lines : List Line) (line : Line) → Front j text lines rest → rest ≡ own ++ 59 ∷ after → own ≡ line_text line → IsLineOf j line → Front j text (lines ++ line ∷ []) after
more_front j text rest own after lines line front is same of = record {
  is = front.is ∙ ap (λ (x : List ℕ). lines_text lines ++ x) (is ∙ ap (λ (x : List ℕ). x ++ 59 ∷ after) same ∙ sym (append_assoc (line_text line) (59 ∷ []) after))
      ∙ sym (append_assoc (lines_text lines) (line_text line ++ 59 ∷ []) after) ∙ ap (λ (x : List ℕ). x ++ after) (sym (lines-push lines line));
  of = all-push j lines line front.of of;
}

-- of a text that tells these lines and this end, what is left to be told
pub record Left (j : JobId) (whole so_far : List Line) (end rest : List ℕ) : Type 0 where
  pub lines : List Line
  pub of : AllByRecursion (IsLineOf j) lines
  pub whole_is : whole ≡ so_far ++ lines
  pub is : rest ≡ lines_text lines ++ end

pub all_left : (j : JobId) (whole : List Line) (end text : List ℕ) → AllByRecursion (IsLineOf j) whole → text ≡ lines_text whole ++ end → Left j whole [] end text
all_left j whole end text all is = record { lines = whole; of = all; whole_is = refl; is = is }

-- the next line of it
pub record Next (j : JobId) (whole so_far : List Line) (end own after : List ℕ) : Type 0 where
  pub line : Line
  pub of : IsLineOf j line
  pub is : own ≡ line_text line
  pub left : Left j whole (so_far ++ line ∷ []) end after

pub next_left : (j : JobId) (whole so_far : List Line) (end rest own after : List ℕ) → Lacks 59 end → Lacks 59 own → rest ≡ own ++ 59 ∷ after → Left j whole so_far end rest → Next j whole so_far end own after
unfolding lines_text
next_left j whole so_far end rest own after clean lacks cut left = by left.lines left.of left.whole_is left.is
  where
    by : (lines : List Line) → AllByRecursion (IsLineOf j) lines → whole ≡ so_far ++ lines → rest ≡ lines_text lines ++ end → Next j whole so_far end own after
    by [] of w is = absurd (no_cut 59 own after (subst (Lacks 59) (sym is ∙ cut) clean))
    by (l ∷ lines) of w is =
        let p = same_cut 59 own (line_text l) after (lines_text lines ++ end) lacks (line_lacks l) (sym cut ∙ is ∙ append_assoc (line_text l) (59 ∷ lines_text lines) end) in
        record {
          line = l;
          of = of.0;
          is = p.0;
          left = record { lines = lines; of = of.1; whole_is = w ∙ sym (append_assoc so_far (l ∷ []) lines); is = p.1 };
        }

pub none_left : (j : JobId) (whole so_far : List Line) (end rest : List ℕ) → Lacks 59 rest → Left j whole so_far end rest → (so_far ≡ whole) × (rest ≡ end)
unfolding lines_text
none_left j whole so_far end rest lacks left = by left.lines left.whole_is left.is
  where
    by : (lines : List Line) → whole ≡ so_far ++ lines → rest ≡ lines_text lines ++ end → (so_far ≡ whole) × (rest ≡ end)
    by [] w is = (sym (w ∙ append-nil so_far), is)
    by (l ∷ lines) w is = absurd (no_cut 59 (line_text l) (lines_text lines ++ end) (subst (Lacks 59) (is ∙ append_assoc (line_text l) (59 ∷ lines_text lines) end) lacks))
