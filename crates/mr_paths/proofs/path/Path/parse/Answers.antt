use Rattle.std.proofs.Common.{◌≡◌, ◌∷◌, List, ℕ, ap, length, lit<, true≢false, ◌∙◌, sym, subst, ◌==◌, Ok}
use Rattle.std.proofs.lemmas.Str.Pattern.{strip_prefix_char}
use Rattle.mr_paths.specs.Text.{path_text, ReadsPath}
use Rattle.mr_paths.proofs.TextReading.{no_slash, no_names, spelled_by_parts, path_of_parts, without_memory, shown_as_spelled}
use Rattle.mr_paths.proofs.path.Path.parse.Goals as goal

pub returns-in_default-clause-reads : goal.returns-in_default-clause-reads
returns-in_default-clause-reads c =
    let found = strip_prefix_char 47 c.args.text.now c.strip_prefix.result c.strip_prefix.ensures.cases (lit< tt) in
    no_slash c.args.text.now (rw c.in_default.is at found)

pub returns-then-not-are_names-clause-reads : goal.returns-then-not-are_names-clause-reads
returns-then-not-are_names-clause-reads c =
    let found = strip_prefix_char 47 c.args.text.now c.strip_prefix.result c.strip_prefix.ensures.cases (lit< tt) in
    let cut : c.args.text.now ≡ 47 ∷ c.in-Some.rest.now = rw c.in-Some.is at found in
    no_names c.args.text.now c.in-Some.rest.now cut
    (λ e. true≢false (ap (λ (l : List ℕ). length l == 0) (sym e) ∙ (sym c.is_empty.ensures ∙ c.if-is_empty.false)))
    (λ all. true≢false (sym (c.are_names.ensures.1 all) ∙ c.if-not-are_names.true))

pub returns-in_err-read_names-clause-reads : goal.returns-in_err-read_names-clause-reads
returns-in_err-read_names-clause-reads c =
    let found = strip_prefix_char 47 c.args.text.now c.strip_prefix.result c.strip_prefix.ensures.cases (lit< tt) in
    let cut : c.args.text.now ≡ 47 ∷ c.in-Some.rest.now = rw c.in-Some.is at found in
    without_memory c.args.text.now c.from_residual.result (path_of_parts c.args.text.now c.in-Some.rest.now cut (c.are_names.ensures.0 c.if-not-are_names.false)) c.from_residual.ensures.1

pub returns-clause-reads : goal.returns-clause-reads
returns-clause-reads c =
    let found = strip_prefix_char 47 c.args.text.now c.strip_prefix.result c.strip_prefix.ensures.cases (lit< tt) in
    let cut : c.args.text.now ≡ 47 ∷ c.in-Some.rest.now = rw c.in-Some.is at found in
    subst (λ path. ReadsPath c.args.text.now (Ok path)) (sym c.in_ok-read_names.ensures.parts)
    (c.are_names.ensures.0 c.if-not-are_names.false, spelled_by_parts c.args.text.now c.in-Some.rest.now cut)

pub returns-clause-shown : goal.returns-clause-shown
returns-clause-shown c =
    let found = strip_prefix_char 47 c.args.text.now c.strip_prefix.result c.strip_prefix.ensures.cases (lit< tt) in
    let cut : c.args.text.now ≡ 47 ∷ c.in-Some.rest.now = rw c.in-Some.is at found in
    shown_as_spelled c.in_ok-read_names.field-0 c.in_ok-read_names.ensures.utf8
    ∙ (ap path_text c.in_ok-read_names.ensures.parts ∙ sym (spelled_by_parts c.args.text.now c.in-Some.rest.now cut))
