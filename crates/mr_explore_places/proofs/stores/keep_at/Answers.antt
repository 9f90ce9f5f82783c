use Rattle.std.proofs.Common.{◌≡◌, ◌<◌, length, subst}
use Rattle.std.specs.Vec.{vec_len}
use Rattle.std.proofs.lemmas.Result.{on_ok_weaker}
use Rattle.mr_explore_places.proofs.Slots.{keeps_at}
use Rattle.mr_explore_places.proofs.stores.keep_at.Goals as goal

pub returns : goal.returns
returns g c =
    let same : vec_len c.args.rows.now ≡ length c.args.rows.now.items = search in
    on_ok_weaker c.keep.result (λ f. keeps_at c.args.rows.now.items c.args.at c.index_mut-row.result.now (record { kept = c.keep.new.kept }) c.args.new.place.value (subst (λ n. c.args.at < n) same c.requires) c.index_mut-row.ensures.value f) c.keep.ensures
