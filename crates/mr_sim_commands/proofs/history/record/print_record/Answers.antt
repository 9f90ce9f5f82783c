use Rattle.std.proofs.Common.{◌≡◌, ◌++◌, ◌∙◌, ℕ, List, Result, Ok, Err, ap, sym, append_assoc, codes, decimal}
use Rattle.std.specs.Prelude.{OnOk}
use Rattle.mr_ids.specs.Text.{attempt_text}
use Rattle.mr_sim_commands.specs.history.Text.{record_text}
use Rattle.mr_sim_commands.proofs.history.record.print_record.Goals as goal

-- what three calls added, as one text behind what was there
behind : (o w a x n y i : List ℕ) → o ++ w ++ a ++ x ++ n ++ y ++ i ≡ o ++ (w ++ a ++ x ++ n ++ y ++ i)
behind o w a x n y i =
    ap (λ l. l ++ x ++ n ++ y ++ i) (append_assoc o w a)
    ∙ ap (λ l. l ++ n ++ y ++ i) (append_assoc o (w ++ a) x)
    ∙ ap (λ l. l ++ y ++ i) (append_assoc o (w ++ a ++ x) n)
    ∙ ap (λ l. l ++ i) (append_assoc o (w ++ a ++ x ++ n) y)
    ∙ append_assoc o (w ++ a ++ x ++ n ++ y) i

on_ok : {A E P Q : Type 0} (r : Result A E) → OnOk r P → (P → Q) → OnOk r Q
on_ok (Ok x) p f = f p
on_ok (Err e) p f = p

pub returns-in_ok-print_number-in-MapSucceeded : goal.returns-in_ok-print_number-in-MapSucceeded
returns-in_ok-print_number-in-MapSucceeded c =
    let out = c.args.out.now.items in
    let a = c.in-MapSucceeded.attempt in
    let first = c.in_ok-print_attempt-in-MapSucceeded.ensures in
    let second = c.in_ok-print_number-in-MapSucceeded.ensures in
    on_ok c.print_number-in-MapSucceeded-2.result c.print_number-in-MapSucceeded-2.ensures (λ third.
    third
    ∙ ap (λ l. l ++ codes " incarnation " ++ decimal c.in-MapSucceeded.incarnation) (second ∙ ap (λ l. l ++ codes " node " ++ decimal c.in-MapSucceeded.node) first)
    ∙ behind out (codes "map ") (attempt_text a) (codes " node ") (decimal c.in-MapSucceeded.node) (codes " incarnation ") (decimal c.in-MapSucceeded.incarnation)
    ∙ ap (λ r. out ++ record_text r) (sym c.in-MapSucceeded.is))
