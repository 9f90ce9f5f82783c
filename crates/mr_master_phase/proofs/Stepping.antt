-- What the answer of a committer's call changes of the work.
use Rattle.std.proofs.Common.{◌≡◌, Bool, true, false, List, Result, Ok, Err, refl, sym, ap, ◌∙◌, true≢false, if◌then◌else◌}
use Rattle.mr_commit.specs.Line.{Line}
use Rattle.mr_commit.specs.declared.fault.CommitFault.{CommitFault}
use Rattle.mr_commit.specs.declared.fault.StepDone.{StepDone}
use Rattle.mr_commit.specs.declared.fault.StepDone.TheVariants as done
use Rattle.mr_master_model.specs.declared.setting.Setting.{Setting}
use Rattle.mr_master_model.specs.declared.store.StoreAnswer.{StoreAnswer}
use Rattle.mr_master_model.specs.Past.{Work, SetsUp, TakesOver, CommitsJob, TellsSuccess, TellsFail, Stops}
use Rattle.mr_master_model.specs.Readings.{Seen}
use Rattle.mr_master_model.specs.Answered.{heard_by, goes_on, is_superseded, work_after, next_winner, winners}
use Rattle.mr_master_phase.specs.Heard as heard
use Rattle.mr_master_phase.specs.Heard.{Heard, heard_as}
use Rattle.mr_master_phase.specs.WorkKinds.{is_step, left_of, with_left, refused_when, finished_by}

abbrev pub by_heard : Heard → (more finished refused : Work) → Work
by_heard heard.More more finished refused = more
by_heard heard.Finished more finished refused = finished
by_heard heard.Refused more finished refused = refused

goes : (r : Result StepDone CommitFault) (left : List Line) (h : Heard) → h ≡ heard_as r → (more : List Line → Work) (finished refused : Work)
    → goes_on r left more finished refused ≡ by_heard h (more left) finished refused
goes (Ok done.More) left h e more finished refused = ap (λ k. by_heard k (more left) finished refused) (sym e)
goes (Ok done.Finished) left h e more finished refused = ap (λ k. by_heard k (more left) finished refused) (sym e)
goes (Err f) left h e more finished refused = ap (λ k. by_heard k (more left) finished refused) (sym e)

both : (b : Bool) → Stops ≡ (if b then Stops else Stops)
both true = refl
both false = refl

-- the work after the answer, by what came of it
pub steps : (w : Setting) (s : Seen) (a : StoreAnswer) (work : Work) (h : Heard) → is_step work ≡ true → h ≡ heard_as (heard_by (left_of work) a).0
    → work_after w s a work ≡ by_heard h (with_left work (heard_by (left_of work) a).1) (finished_by w s work) (refused_when (is_superseded a) work)
unfolding work_after
steps w s a (SetsUp left) h is e = goes (heard_by left a).0 (heard_by left a).1 h e SetsUp (next_winner w (winners w s)) Stops ∙ ap (λ x. by_heard h (SetsUp (heard_by left a).1) (next_winner w (winners w s)) x) (both (is_superseded a))
steps w s a (TakesOver x left others) h is e = goes (heard_by left a).0 (heard_by left a).1 h e (λ l. TakesOver x l others) (next_winner w others) Stops ∙ ap (λ y. by_heard h (TakesOver x (heard_by left a).1 others) (next_winner w others) y) (both (is_superseded a))
steps w s a (CommitsJob left) h is e = goes (heard_by left a).0 (heard_by left a).1 h e CommitsJob TellsSuccess (if is_superseded a then Stops else TellsFail)
steps w s a _ h is e = absurd (true≢false (sym is))

pub when-more : (w : Setting) (s : Seen) (a : StoreAnswer) (work new : Work) → is_step work ≡ true → heard.More ≡ heard_as (heard_by (left_of work) a).0
    → new ≡ with_left work (heard_by (left_of work) a).1 → new ≡ work_after w s a work
when-more w s a work new is e n = n ∙ sym (steps w s a work heard.More is e)

pub when-finished : (w : Setting) (s : Seen) (a : StoreAnswer) (work new : Work) → is_step work ≡ true → heard.Finished ≡ heard_as (heard_by (left_of work) a).0
    → new ≡ finished_by w s work → new ≡ work_after w s a work
when-finished w s a work new is e n = n ∙ sym (steps w s a work heard.Finished is e)

pub when-refused : (w : Setting) (s : Seen) (a : StoreAnswer) (work new : Work) → is_step work ≡ true → heard.Refused ≡ heard_as (heard_by (left_of work) a).0
    → new ≡ refused_when (is_superseded a) work → new ≡ work_after w s a work
when-refused w s a work new is e n = n ∙ sym (steps w s a work heard.Refused is e)
