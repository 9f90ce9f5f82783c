use Rattle.std.proofs.Common.{◌≡◌, ◌∙◌, ℕ, ◌+◌, ◌-◌, cond, None, length, take, drop, sym, ap, arith, length-drop}
use Rattle.std.proofs.lemmas.Bool.Decides.{Decides-eqb}
use Rattle.std.proofs.lemmas.List.{take_all}
use Rattle.std.proofs.lemmas.Slice.Eq.{starts_is}
use Rattle.std.specs.Option.{option_map}
use Rattle.mr_user.specs.Computation.{computation}
use Rattle.mr_mapside.specs.Runs.{pair_at}
use Rattle.mr_mapside.proofs.RunReading.{named_pair, bad_wire}
use Rattle.mr_mapside.proofs.merging.read_value.Goals as goal

pub returns-then-not-begins_with-clause-pair : goal.returns-then-not-begins_with-clause-pair
returns-then-not-begins_with-clause-pair g c =
    let all = computation g.J.Key.Ord.cmp g.J.Key.Wire.codec g.J.Value.Wire.codec g.J.Job.functions in
    ap (λ b. cond b (pair_at all c.args.bytes.now) None) (sym c.if-not-begins_with.true ∙ c.begins_with.ensures)

pub returns-in-Ok-clause-pair : goal.returns-in-Ok-clause-pair
returns-in-Ok-clause-pair g c =
    let all = computation g.J.Key.Ord.cmp g.J.Key.Wire.codec g.J.Value.Wire.codec g.J.Job.functions in
    let key = c.args.key.now in
    let name = c.args.name.now in
    let bytes = c.args.bytes.now in
    let begins = (starts_is Decides-eqb bytes name c.begins_with.result c.begins_with.ensures).0 c.if-not-begins_with.false in
    let cut : take (length bytes - length name) (drop (length name) bytes) ≡ drop (length name) bytes = take_all (length bytes - length name) (drop (length name) bytes) (omega (arith, length-drop (length name) bytes)) in
    sym (
    ap (λ b. cond b (pair_at all bytes) None) (sym c.begins_with.ensures ∙ c.if-not-begins_with.false)
    ∙ named_pair all g.met.J.Key.Wire.laws g.met.J.Value.Wire.laws key name bytes c.requires begins
    ∙ ap (λ rest. option_map (λ (value : g.row.J-Value.Denot × ℕ). ((key, value.0), length name + value.1)) (g.J.Value.Wire.codec.read_at rest)) (sym cut)
    ∙ ap (option_map (λ (value : g.row.J-Value.Denot × ℕ). ((key, value.0), length name + value.1))) c.in-Ok.ensures.read
    )

pub returns-in_ok-no_memory-in-Err-clause-pair : goal.returns-in_ok-no_memory-in-Err-clause-pair
returns-in_ok-no_memory-in-Err-clause-pair g c =
    let all = computation g.J.Key.Ord.cmp g.J.Key.Wire.codec g.J.Value.Wire.codec g.J.Job.functions in
    let key = c.args.key.now in
    let name = c.args.name.now in
    let bytes = c.args.bytes.now in
    let begins = (starts_is Decides-eqb bytes name c.begins_with.result c.begins_with.ensures).0 c.if-not-begins_with.false in
    let cut : take (length bytes - length name) (drop (length name) bytes) ≡ drop (length name) bytes = take_all (length bytes - length name) (drop (length name) bytes) (omega (arith, length-drop (length name) bytes)) in
    sym (
    ap (λ b. cond b (pair_at all bytes) None) (sym c.begins_with.ensures ∙ c.if-not-begins_with.false)
    ∙ named_pair all g.met.J.Key.Wire.laws g.met.J.Value.Wire.laws key name bytes c.requires begins
    ∙ ap (λ rest. option_map (λ (value : g.row.J-Value.Denot × ℕ). ((key, value.0), length name + value.1)) (g.J.Value.Wire.codec.read_at rest)) (sym cut)
    ∙ ap (option_map (λ (value : g.row.J-Value.Denot × ℕ). ((key, value.0), length name + value.1))) (bad_wire c.in-Err.fault c.in_ok-no_memory-in-Err.ensures c.in-Err.ensures.bad)
    )
