use Rattle.std.proofs.Common.{◌≡◌, ◌∙◌, ◌<◌, ◌+◌, ◌++◌, ◌∷◌, [], ℕ, List, length, map, take, get_or, sym, ap, append-nil, append_assoc}
use Rattle.std.proofs.lemmas.List.{flat_map_more, map-append, take_more}
use Rattle.mr_user.specs.Computation.{Computation, computation}
use Rattle.mr_mapside.specs.Block.{spelled_pair, spelled}
use Rattle.mr_mapside.proofs.work.spell_group.Goals as goal

-- One value of a key more.
value_more : {K V : Type 0} (job : Computation K V) (k : K) (vs : List V) (i : ℕ) (v : V) (begun was named now name : List ℕ) → i < length vs → v ≡ get_or vs i v →
    was ≡ begun ++ spelled job (map (λ v. (k, v)) (take i vs)) → named ≡ was ++ name → name ≡ job.key.written k → now ≡ named ++ job.value.written v → now ≡ begun ++ spelled job (map (λ v. (k, v)) (take (i + 1) vs))
value_more {K} {V} job k vs i v begun was named now name within at so_far more is_name is =
    let of : V → K × V = λ v. (k, v) in
    is
    ∙ ap (λ w. w ++ job.value.written v) (more ∙ ap (λ n. was ++ n) is_name)
    ∙ append_assoc was (job.key.written k) (job.value.written v)
    ∙ ap (λ w. w ++ spelled_pair job (k, v)) so_far
    ∙ flat_map_more (spelled_pair job) begun (map of (take i vs)) (k, v)
    ∙ ap (λ ps. begun ++ spelled job ps) (sym (map-append of (take i vs) (v ∷ [])))
    ∙ ap (λ ws. begun ++ spelled job (map of ws)) (sym (take_more vs i v within ∙ ap (λ w. take i vs ++ w ∷ []) (sym at)))

pub loop-value-init : goal.loop-value-init
loop-value-init g c = sym (append-nil c.args.out.now.items)

pub loop-value-preserved : goal.loop-value-preserved
loop-value-preserved g c =
    let all = computation g.J.Key.Ord.cmp g.J.Key.Wire.codec g.J.Value.Wire.codec g.J.Job.functions in
    value_more all c.args.key.now c.deref-value-items.result.now c.loop-value.value-index c.value-item.result c.args.out.now.items c.loop-value.out.items c.extend_from_slice.new.self.items c.write.new.out.items c.write_name.new.name.items
    c.loop-value-test.true c.value-item.is c.loop-value.invariant
    (c.in_ok-extend_from_slice.ensures.items ∙ ap (λ bytes. c.loop-value.out.items ++ bytes) c.deref.ensures.value)
    c.in_ok-write_name.ensures
    c.in_ok-write.ensures.ok
