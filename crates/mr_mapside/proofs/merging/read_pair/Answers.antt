use Rattle.std.proofs.Common.{◌≡◌, ◌∙◌, ◌+◌, ◌-◌, ℕ, List, Option, Some, None, length, take, drop, sym, ap, arith, length-drop}
use Rattle.std.proofs.lemmas.List.{take_all}
use Rattle.std.specs.Option.{option_map, option_and_then}
use Rattle.mr_user.specs.Computation.{Computation, computation}
use Rattle.mr_user.specs.Faults.{BadWireIf}
use Rattle.mr_mapside.specs.Runs.{pair_at}
use Rattle.mr_user.proofs.Exits.{handed_on, bad_then}
use Rattle.mr_mapside.proofs.RunReading.{pair_some, pair_within}
use Rattle.mr_mapside.proofs.merging.read_pair.Goals as goal

-- What follows a key is all that is read of the bytes behind it.
behind : (n : ℕ) (bytes : List ℕ) → take (length bytes - n) (drop n bytes) ≡ drop n bytes
behind n bytes = take_all (length bytes - n) (drop n bytes) (omega (arith, length-drop n bytes))

module _ {K V : Type 0} (job : Computation K V) where
  -- No key is there.
  no_key : (bytes : List ℕ) → job.key.read_at bytes ≡ None → pair_at job bytes ≡ None
  no_key bytes none = ap (option_and_then (λ (key : K × ℕ). option_map (λ (value : V × ℕ). ((key.0, value.0), key.1 + value.1)) (job.value.read_at (drop key.1 bytes)))) none

  -- A key is there, and then what is read behind it.
  key_then : (bytes : List ℕ) (key : K) (len : ℕ) (value : Option (V × ℕ)) → job.key.read_at bytes ≡ Some (key, len) → job.value.read_at (take (length bytes - len) (drop len bytes)) ≡ value →
      pair_at job bytes ≡ option_map (λ (value : V × ℕ). ((key, value.0), len + value.1)) value
  key_then bytes key len value found read =
      ap (option_and_then (λ (key : K × ℕ). option_map (λ (value : V × ℕ). ((key.0, value.0), key.1 + value.1)) (job.value.read_at (drop key.1 bytes)))) found
      ∙ ap (option_map (λ (value : V × ℕ). ((key, value.0), len + value.1))) (ap job.value.read_at (sym (behind len bytes)) ∙ read)

pub returns-in_err-key-clause-bad : goal.returns-in_err-key-clause-bad
returns-in_err-key-clause-bad g c =
    let all = computation g.J.Key.Ord.cmp g.J.Key.Wire.codec g.J.Value.Wire.codec g.J.Job.functions in
    handed_on c.from_residual.result c.in_err-key.field-0.0 (λ fault. BadWireIf fault (pair_at all c.args.bytes.now ≡ None)) c.from_residual.ensures.1
    (bad_then c.in_err-key.field-0.0 (λ none. no_key all c.args.bytes.now none) c.in_err-key.ensures.bad)

pub returns-in_err-value-clause-bad : goal.returns-in_err-value-clause-bad
returns-in_err-value-clause-bad g c =
    let all = computation g.J.Key.Ord.cmp g.J.Key.Wire.codec g.J.Value.Wire.codec g.J.Job.functions in
    handed_on c.from_residual-in_err-value.result c.in_err-value.field-0.0 (λ fault. BadWireIf fault (pair_at all c.args.bytes.now ≡ None)) c.from_residual-in_err-value.ensures.1
    (bad_then c.in_err-value.field-0.0 (λ none. key_then all c.args.bytes.now c.in_ok-key.key c.in_ok-key.key_len None c.in_ok-key.ensures.read none) c.in_err-value.ensures.bad)

pub returns-clause-read : goal.returns-clause-read
returns-clause-read g c =
    let all = computation g.J.Key.Ord.cmp g.J.Key.Wire.codec g.J.Value.Wire.codec g.J.Job.functions in
    key_then all c.args.bytes.now c.in_ok-key.key c.in_ok-key.key_len (Some (c.in_ok-value.value, c.in_ok-value.value_len)) c.in_ok-key.ensures.read c.in_ok-value.ensures.read

pub returns-clause-some : goal.returns-clause-some
returns-clause-some g c =
    let all = computation g.J.Key.Ord.cmp g.J.Key.Wire.codec g.J.Value.Wire.codec g.J.Job.functions in
    pair_some all g.met.J.Key.Wire.laws g.met.J.Value.Wire.laws c.args.bytes.now ((c.in_ok-key.key, c.in_ok-value.value), c.in_ok-key.key_len + c.in_ok-value.value_len)
    (key_then all c.args.bytes.now c.in_ok-key.key c.in_ok-key.key_len (Some (c.in_ok-value.value, c.in_ok-value.value_len)) c.in_ok-key.ensures.read c.in_ok-value.ensures.read)

pub returns-clause-within : goal.returns-clause-within
returns-clause-within g c =
    let all = computation g.J.Key.Ord.cmp g.J.Key.Wire.codec g.J.Value.Wire.codec g.J.Job.functions in
    pair_within all g.met.J.Key.Wire.laws g.met.J.Value.Wire.laws c.args.bytes.now ((c.in_ok-key.key, c.in_ok-value.value), c.in_ok-key.key_len + c.in_ok-value.value_len)
    (key_then all c.args.bytes.now c.in_ok-key.key c.in_ok-key.key_len (Some (c.in_ok-value.value, c.in_ok-value.value_len)) c.in_ok-key.ensures.read c.in_ok-value.ensures.read)
