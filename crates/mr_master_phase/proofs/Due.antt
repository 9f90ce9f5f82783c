-- Which call is due, by what comes first.
use Rattle.std.proofs.Common.{◌≡◌, refl, sym, ap, ◌∙◌, Result, Ok, Err, Bool, true, Option, Some, None, if◌then◌else◌}
use Rattle.std.specs.List.{find}
use Rattle.std.specs.Result.{OnErr}
use Rattle.std.specs.Option.{is_some, option_map}
use Rattle.mr_ids.specs.Attempt.{Attempt}
use Rattle.mr_names.specs.declared.op.Op.TheVariants as op
use Rattle.mr_master_model.specs.declared.setting.Setting.{Setting}
use Rattle.mr_master_model.specs.declared.phase.DutyName.TheVariants as name
use Rattle.mr_master_model.specs.declared.store.StoreCall.TheVariants as call
use Rattle.mr_master_model.specs.Job.{all_reduces}
use Rattle.mr_master_model.specs.Past.{Runs, Fails}
use Rattle.mr_master_model.specs.Readings.{Seen, is_live, or_else, all_succeeded}
use Rattle.mr_master_model.specs.Duty.{Duty, duty_at, record_duty, start_duty, abort_duty, creates, started_mark}

-- ---- while Failing

pub fails-first : (w : Setting) (s : Seen) (b : Bool) (d : Duty) → Some d ≡ record_duty s.due s.tail → Some d ≡ duty_at w s (Fails b)
unfolding duty_at
fails-first w s b d e = ap (λ o. or_else o (if b then abort_duty w else None)) e

pub fails-next : (w : Setting) (s : Seen) (b : Bool) (o : Option Duty) → None ≡ record_duty s.due s.tail → o ≡ (if b then abort_duty w else None) → o ≡ duty_at w s (Fails b)
unfolding duty_at
fails-next w s b o e q = q ∙ ap (λ x. or_else x (if b then abort_duty w else None)) e

-- ---- while Running

abbrev barred : Option Attempt → Option Duty
barred o = option_map (λ a. record { name = name.Bar; call = call.Names (op.Bar a) }) o

pub runs-bar : (w : Setting) (s : Seen) (a : Attempt) → Some a ≡ find (is_live w s) s.bars → Some (record { name = name.Bar; call = call.Names (op.Bar a) }) ≡ duty_at w s Runs
unfolding duty_at
runs-bar w s a e = ap (λ o. or_else (barred o) (or_else (record_duty s.due s.tail) (start_duty w s))) e

pub runs-record : (w : Setting) (s : Seen) (d : Duty) → None ≡ find (is_live w s) s.bars → Some d ≡ record_duty s.due s.tail → Some d ≡ duty_at w s Runs
unfolding duty_at
runs-record w s d e q = ap (λ o. or_else o (start_duty w s)) q ∙ ap (λ o. or_else (barred o) (or_else (record_duty s.due s.tail) (start_duty w s))) e

pub runs-start : (w : Setting) (s : Seen) (b : Bool) (o : Option Duty) → None ≡ find (is_live w s) s.bars → None ≡ record_duty s.due s.tail → b ≡ all_succeeded w s (all_reduces w)
    → o ≡ (if b then creates name.Started started_mark else None) → o ≡ duty_at w s Runs
unfolding duty_at
runs-start w s b o e q r t =
    t ∙ ap (λ c. if c then creates name.Started started_mark else None) r
    ∙ ap (λ x. or_else x (start_duty w s)) q ∙ ap (λ x. or_else (barred x) (or_else (record_duty s.due s.tail) (start_duty w s))) e

-- ---- where memory is allocated for it, a call is due

pub on-err : {T E P : Type 0} (r : Result T E) → P → OnErr r P
on-err (Ok x) p = tt
on-err (Err e) p = p

pub runs-due : (w : Setting) (s : Seen) → None ≡ find (is_live w s) s.bars → None ≡ record_duty s.due s.tail → true ≡ all_succeeded w s (all_reduces w) → true ≡ is_some (duty_at w s Runs)
runs-due w s e q r = ap (λ (o : Option Duty). is_some o) (runs-start w s true (creates name.Started started_mark) e q r refl)

pub fails-due : (w : Setting) (s : Seen) (b : Bool) → None ≡ record_duty s.due s.tail → b ≡ true → true ≡ is_some (duty_at w s (Fails b))
fails-due w s b e q = ap (λ (o : Option Duty). is_some o) (fails-next w s b (abort_duty w) e (sym (ap (λ c. if c then abort_duty w else None) q)))
