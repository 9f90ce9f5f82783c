use Rattle.std.proofs.Common.{◌∙◌, ◌++◌, ◌∷◌, [], List, sym, ap, subst, append-nil}
use Rattle.std.proofs.lemmas.Iterator.Adapters.{YieldsList-from_vec}
use Rattle.std.proofs.lemmas.Iterator.Consumers.{YieldsList-end}
use Rattle.std.proofs.lemmas.List.{map-id}
use Rattle.mr_user.specs.Computation.{computation}
use Rattle.mr_mapside.specs.inner.Kept.{Kept}
use Rattle.mr_mapside.proofs.Keeping.{pair_more}
use Rattle.mr_mapside.proofs.kept.add_pairs.Goals as goal

pub loop-pair-init : goal.loop-pair-init
loop-pair-init g c =
    let all = computation g.J.Key.Ord.cmp g.J.Key.Wire.codec g.J.Value.Wire.codec g.J.Job.functions in
    record {
      many = c.requires.many;
      kept = λ done h. subst (Kept all c.args.reduces c.args.kept.now.items c.args.run.now.items) (sym (append-nil done)) h;
    }

pub keep_run-requires-clause-some : goal.keep_run-requires-clause-some
keep_run-requires-clause-some g c = c.requires.some

pub keep_run-requires-clause-many : goal.keep_run-requires-clause-many
keep_run-requires-clause-many g c = c.loop-pair.invariant.many

pub returns-in_err-push-clause-many : goal.returns-in_err-push-clause-many
returns-in_err-push-clause-many g c = c.loop-pair.invariant.many

pub returns-in_err-room-clause-many : goal.returns-in_err-room-clause-many
returns-in_err-room-clause-many g c = c.loop-pair.invariant.many

pub returns-in_err-keep_run-clause-many : goal.returns-in_err-keep_run-clause-many
returns-in_err-keep_run-clause-many g c = c.in_err-keep_run.ensures.many

pub returns-clause-many : goal.returns-clause-many
returns-clause-many g c = c.loop-pair.invariant.many

pub loop-pair-preserved : goal.loop-pair-preserved
loop-pair-preserved g c =
    let all = computation g.J.Key.Ord.cmp g.J.Key.Wire.codec g.J.Value.Wire.codec g.J.Job.functions in
    record {
      many = c.loop-pair.invariant.many;
      kept = λ done h.
          pair_more all g.met.J.Key.Wire.laws g.met.J.Value.Wire.laws g.met.J.Key.Ord.total g.met.J.Job.laws.same_key c.args.reduces c.loop-pair.kept.items c.loop-pair.run.items c.push.new.self.items done c.loop-pair.yielded c.in-Some.pair c.in_ok-push.ensures.items (c.loop-pair.invariant.kept done h);
    }

pub loop-pair-preserved-in-Continue-branch-3 : goal.loop-pair-preserved-in-Continue-branch-3
loop-pair-preserved-in-Continue-branch-3 g c =
    let all = computation g.J.Key.Ord.cmp g.J.Key.Wire.codec g.J.Value.Wire.codec g.J.Job.functions in
    record {
      many = c.in_ok-keep_run.ensures.many;
      kept = λ done h.
          let pushed = pair_more all g.met.J.Key.Wire.laws g.met.J.Value.Wire.laws g.met.J.Key.Ord.total g.met.J.Job.laws.same_key c.args.reduces c.loop-pair.kept.items c.loop-pair.run.items c.push.new.self.items done c.loop-pair.yielded c.in-Some.pair c.in_ok-push.ensures.items (c.loop-pair.invariant.kept done h) in
          let full : List (g.row.J-Key.Denot × g.row.J-Value.Denot) = c.replace-full.result.items in
          let all_done = done ++ (c.loop-pair.yielded ++ c.in-Some.pair ∷ []) in
          subst (λ (run : List (g.row.J-Key.Denot × g.row.J-Value.Denot)). Kept all c.args.reduces c.keep_run.new.kept.items run all_done) (sym (ap (λ v. v.items) c.replace-full.ensures.after ∙ c.in_ok-room.ensures.items))
          (c.in_ok-keep_run.ensures.kept all_done (subst (λ (run : List (g.row.J-Key.Denot × g.row.J-Value.Denot)). Kept all c.args.reduces c.loop-pair.kept.items run all_done) (sym (ap (λ v. v.items) c.replace-full.ensures.value)) pushed));
    }

pub returns-clause-kept : goal.returns-clause-kept
returns-clause-kept g c done h =
    let all = computation g.J.Key.Ord.cmp g.J.Key.Wire.codec g.J.Value.Wire.codec g.J.Job.functions in
    let gives = c.into_iter-pair-iterator.ensures.into_iter_gives in
    let ok = c.args.pairs.ok in
    let whole = sym (map-id c.loop-pair.yielded) ∙ (YieldsList-end (YieldsList-from_vec c.args.pairs.items gives.0 (gives.1 ∙ ok.0)) c.loop-pair.yielded c.loop-pair.pair-iterator c.loop-pair.yielded_by c.next.result c.next.new.self c.in-None.is c.next.ensures.steps).0 in
    subst (λ (ps : List (g.row.J-Key.Denot × g.row.J-Value.Denot)). Kept all c.args.reduces c.loop-pair.kept.items c.loop-pair.run.items (done ++ ps)) whole (c.loop-pair.invariant.kept done h)
