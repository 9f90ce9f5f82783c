use Rattle.std.proofs.Common.{◌≡◌, ◌≢◌, ◌++◌, ◌∷◌, [], List, sym, ap, ◌∙◌, subst}
use Rattle.std.proofs.lemmas.List.Elements.{recursion_from_All}
use Rattle.mr_log_entries.specs.declared.entry.Entry.{Entry}
use Rattle.mr_log_layout.proofs.Entries.{Front, Left, no_front, all_left, more_front, next_left, none_left}
use Rattle.mr_log_layout.proofs.summaries.entries_in.Goals as goal

pub loop-own-init : goal.loop-own-init
loop-own-init c = record {
  front = subst (λ (es : List Entry). Front c.args.job.now c.args.text.now es c.args.text.now) (sym c.new-entries.ensures) (no_front c.args.job.now c.args.text.now);
  left = λ whole all e. subst (λ (es : List Entry). Left c.args.job.now whole es c.args.text.now) (sym c.new-entries.ensures) (all_left c.args.job.now whole c.args.text.now all e);
}

pub returns-in_default-2-clause-only : goal.returns-in_default-2-clause-only
returns-in_default-2-clause-only c whole all e =
    let cut = c.in-Some.ensures.some in
    let next = next_left c.args.job.now whole c.loop-own.entries c.loop-own.rest.now c.in-Some.own.now c.in-Some.after.now (recursion_from_All (λ b. b ≢ 10) c.in-Some.own.now cut.0) cut.1
    (c.loop-own.invariant.left whole all e) in
    let none = c.in_default-2.is in
    let read = c.in_ok-entry.ensures.only next.entry next.of next.is in
    absurd (cc)

pub loop-own-preserved : goal.loop-own-preserved
loop-own-preserved c =
    let cut = c.in-Some.ensures.some in
    let found = rw c.in-Some-2.is at c.in_ok-entry.ensures.found in
    record {
      front = subst (λ (es : List Entry). Front c.args.job.now c.args.text.now es c.in-Some.after.now) (sym c.in_ok-push.ensures.ok)
          (more_front c.args.job.now c.args.text.now c.loop-own.rest.now c.in-Some.own.now c.in-Some.after.now c.loop-own.entries c.in-Some-2.entry c.loop-own.invariant.front cut.1 found.1 found.0);
      left = λ whole all e.
          let next = next_left c.args.job.now whole c.loop-own.entries c.loop-own.rest.now c.in-Some.own.now c.in-Some.after.now (recursion_from_All (λ b. b ≢ 10) c.in-Some.own.now cut.0) cut.1
          (c.loop-own.invariant.left whole all e) in
          let some = c.in-Some-2.is in
          let read = c.in_ok-entry.ensures.only next.entry next.of next.is in
          let same : next.entry ≡ c.in-Some-2.entry = cc in
          subst (λ (es : List Entry). Left c.args.job.now whole es c.in-Some.after.now) (ap (λ (x : Entry). c.loop-own.entries ++ x ∷ []) same ∙ sym c.in_ok-push.ensures.ok) next.left;
    }

pub returns-clause-found : goal.returns-clause-found
returns-clause-found c = let front = c.loop-own.invariant.front in (front.of, front.is)

pub returns-clause-only : goal.returns-clause-only
returns-clause-only c whole all e =
    none_left c.args.job.now whole c.loop-own.entries c.loop-own.rest.now (recursion_from_All (λ b. b ≢ 10) c.loop-own.rest.now c.in_default.ensures.none) (c.loop-own.invariant.left whole all e)
