use Rattle.std.proofs.Common.{refl, Result, Ok, Err, OnErr}
use Rattle.std.proofs.lemmas.Result.{IfOk-weaker}
use Rattle.mr_master.proofs.Copies.{copy-plans, copy-stands}
use Rattle.mr_world_state.proofs.act.own.Goals as goal

err-by : {A E X Y : Type 0} (r : Result A E) → (X → Y) → OnErr r X → OnErr r Y
err-by (Ok a) f x = tt
err-by (Err e) f x = f x

pub returns : goal.returns
returns c = (
  (refl, c.own_clone.follows.holds, err-by c.own_clone.result (λ is. copy-stands c.args.machine.now _ is) c.own_clone.follows.holds-at-none),
  record {
    writes_back = tt;
    still = IfOk-weaker c.own_clone.result _ _ (λ own is. copy-stands c.args.machine.now own.now is) c.own_clone.ensures.value;
    plans = IfOk-weaker c.own_clone.result _ _ (λ own is step prepared planned. copy-plans c.args.machine.now own.now step prepared is planned) c.own_clone.ensures.value;
  },
)
