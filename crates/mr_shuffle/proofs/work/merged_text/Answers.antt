use Rattle.std.proofs.Common.{◌≡◌, ◌∙◌, ◌<◌, ◌≤◌, ◌++◌, [], ℕ, List, length, sym, ap, arith, length-append}
use Rattle.std.specs.List.{flat_map}
use Rattle.mr_user.specs.Computation.{computation}
use Rattle.mr_user.specs.Sequential.{key_lines}
use Rattle.mr_mapside.specs.Work.{FullIf}
use Rattle.mr_mapside.specs.declared.fault.WorkFault.TheVariants as work
use Rattle.mr_mapside.proofs.Giving.{fewer_left, first_given, written_then}
use Rattle.mr_shuffle.proofs.AllPieces.{handed_on}
use Rattle.mr_shuffle.proofs.work.merged_text.Goals as goal

none_short : (text : List ℕ) → text ≡ [] → length text ≤ 16777216
none_short text none = omega (arith, ap length none)

-- A text is as long as its front at least.
too_long : {G : Type 0} (lines : G → List ℕ) (all now : List ℕ) (after : List G) → all ≡ now ++ flat_map lines after → 16777216 < length now → 16777216 < length all
too_long lines all now after is long = omega (arith, ap length is, length-append now (flat_map lines after))

pub loop-text-init : goal.loop-text-init
loop-text-init g c =
    let all = computation g.J.Key.Ord.cmp g.J.Key.Wire.codec g.J.Value.Wire.codec g.J.Job.functions in
    record {
      text = ap (λ text. text ++ flat_map (key_lines all) c.args.groups) (sym c.new-text.ensures.items);
      short = none_short c.new-text.result.items c.new-text.ensures.items;
    }

pub returns-in_err-key-clause-fault : goal.returns-in_err-key-clause-fault
returns-in_err-key-clause-fault g c =
    let all = computation g.J.Key.Ord.cmp g.J.Key.Wire.codec g.J.Value.Wire.codec g.J.Job.functions in
    handed_on c.from_residual.result work.NoMemory (λ fault. FullIf fault (flat_map (key_lines all) c.args.groups)) c.from_residual.ensures.1 tt

pub returns-in_err-write_lines-clause-fault : goal.returns-in_err-write_lines-clause-fault
returns-in_err-write_lines-clause-fault g c =
    let all = computation g.J.Key.Ord.cmp g.J.Key.Wire.codec g.J.Value.Wire.codec g.J.Job.functions in
    handed_on c.from_residual-in_err-write_lines.result work.NoMemory (λ fault. FullIf fault (flat_map (key_lines all) c.args.groups)) c.from_residual-in_err-write_lines.ensures.1 tt

pub returns-then-len-gt-MAX_OUTPUT_LEN-clause-fault : goal.returns-then-len-gt-MAX_OUTPUT_LEN-clause-fault
returns-then-len-gt-MAX_OUTPUT_LEN-clause-fault g c =
    let all = computation g.J.Key.Ord.cmp g.J.Key.Wire.codec g.J.Value.Wire.codec g.J.Job.functions in
    let text = c.write_lines.new.out.items in
    let first = first_given (λ values. values.items) c.loop-text.groups c.next_group.new.self c.in_ok-key.field-0 (c.in-Some.key, c.in-Some.values) c.in-Some.is c.in_ok-key.ensures.gives in
    let written = c.in_ok-write_lines.ensures ∙ ap (λ values. c.loop-text.text.items ++ key_lines all (c.in-Some.key, values)) c.deref.ensures.value in
    let long : 16777216 < length text = omega (arith, c.if-len-gt-MAX_OUTPUT_LEN.true, c.write_lines.new.out.ok.0) in
    too_long (key_lines all) (flat_map (key_lines all) c.args.groups) text c.next_group.new.self
    (written_then (key_lines all) _ c.loop-text.text.items text c.loop-text.groups c.next_group.new.self (c.in-Some.key, c.in-Some.values.items) c.loop-text.invariant.text first written) long

pub loop-text-smaller : goal.loop-text-smaller
loop-text-smaller g c =
    fewer_left c.loop-text.groups c.next_group.new.self (c.in-Some.key, c.in-Some.values.items)
    (first_given (λ values. values.items) c.loop-text.groups c.next_group.new.self c.in_ok-key.field-0 (c.in-Some.key, c.in-Some.values) c.in-Some.is c.in_ok-key.ensures.gives)

pub loop-text-preserved : goal.loop-text-preserved
loop-text-preserved g c =
    let all = computation g.J.Key.Ord.cmp g.J.Key.Wire.codec g.J.Value.Wire.codec g.J.Job.functions in
    let first = first_given (λ values. values.items) c.loop-text.groups c.next_group.new.self c.in_ok-key.field-0 (c.in-Some.key, c.in-Some.values) c.in-Some.is c.in_ok-key.ensures.gives in
    let written = c.in_ok-write_lines.ensures ∙ ap (λ values. c.loop-text.text.items ++ key_lines all (c.in-Some.key, values)) c.deref.ensures.value in
    record {
      text = written_then (key_lines all) _ c.loop-text.text.items c.write_lines.new.out.items c.loop-text.groups c.next_group.new.self (c.in-Some.key, c.in-Some.values.items) c.loop-text.invariant.text first written;
      short = omega (arith, c.if-len-gt-MAX_OUTPUT_LEN.false, c.write_lines.new.out.ok.0);
    }
