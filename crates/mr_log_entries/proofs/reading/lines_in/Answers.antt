use Rattle.std.proofs.Common.{◌≡◌, ◌≢◌, ◌++◌, ◌∷◌, [], List, sym, ap, ◌∙◌, subst}
use Rattle.std.proofs.lemmas.List.Elements.{recursion_from_All}
use Rattle.mr_log_entries.specs.declared.line.Line.{Line}
use Rattle.mr_log_entries.proofs.Fronts.{Front, Left, no_front, all_left, more_front, next_left, none_left}
use Rattle.mr_log_entries.proofs.reading.lines_in.Goals as goal

pub loop-own-init : goal.loop-own-init
loop-own-init c = record {
  front = subst (λ (ls : List Line). Front c.args.job.now c.args.text.now ls c.args.text.now) (sym c.new-lines.ensures.items) (no_front c.args.job.now c.args.text.now);
  left = λ whole end all clean e. subst (λ (ls : List Line). Left c.args.job.now whole ls end c.args.text.now) (sym c.new-lines.ensures.items) (all_left c.args.job.now whole end c.args.text.now all e);
}

pub returns-in_default-line_in-clause-only : goal.returns-in_default-line_in-clause-only
returns-in_default-line_in-clause-only c whole end all clean e =
    let cut = c.in-Some.ensures.some in
    let next = next_left c.args.job.now whole c.loop-own.lines.items end c.loop-own.rest.now c.in-Some.own.now c.in-Some.after.now (recursion_from_All (λ b. b ≢ 59) end clean) (recursion_from_All (λ b. b ≢ 59) c.in-Some.own.now cut.0) cut.1
    (c.loop-own.invariant.left whole end all clean e) in
    let read = c.in_default-line_in.ensures.only next.line next.of next.is in
    absurd (cc)

pub loop-own-preserved : goal.loop-own-preserved
loop-own-preserved c =
    let cut = c.in-Some.ensures.some in
    let found = c.in-Some-line_in.ensures.found in
    record {
      front = subst (λ (ls : List Line). Front c.args.job.now c.args.text.now ls c.in-Some.after.now) (sym c.in_ok-push.ensures.items)
          (more_front c.args.job.now c.args.text.now c.loop-own.rest.now c.in-Some.own.now c.in-Some.after.now c.loop-own.lines.items c.in-Some-line_in.line c.loop-own.invariant.front cut.1 found.1 found.0);
      left = λ whole end all clean e.
          let next = next_left c.args.job.now whole c.loop-own.lines.items end c.loop-own.rest.now c.in-Some.own.now c.in-Some.after.now (recursion_from_All (λ b. b ≢ 59) end clean) (recursion_from_All (λ b. b ≢ 59) c.in-Some.own.now cut.0) cut.1
          (c.loop-own.invariant.left whole end all clean e) in
          let read = c.in-Some-line_in.ensures.only next.line next.of next.is in
          let same : next.line ≡ c.in-Some-line_in.line = cc in
          subst (λ (ls : List Line). Left c.args.job.now whole ls end c.in-Some.after.now) (ap (λ (l : Line). c.loop-own.lines.items ++ l ∷ []) same ∙ sym c.in_ok-push.ensures.items) next.left;
    }

pub returns-clause-found : goal.returns-clause-found
returns-clause-found c = let front = c.loop-own.invariant.front in (front.of, front.is)

pub returns-clause-only : goal.returns-clause-only
returns-clause-only c whole end all clean e =
    none_left c.args.job.now whole c.loop-own.lines.items end c.loop-own.rest.now (recursion_from_All (λ b. b ≢ 59) c.loop-own.rest.now c.in_default.ensures.none) (c.loop-own.invariant.left whole end all clean e)
