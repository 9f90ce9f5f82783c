use Rattle.std.proofs.Common.{refl, ◌∙◌, ap, Some, ℕ, List, Bool}
use Rattle.std.proofs.lemmas.List.{take_all}
use Rattle.mr_packet.specs.declared.packet.Envelope.{Envelope}
use Rattle.mr_master_model.specs.Sends.{killed_by}
use Rattle.mr_master_tables.proofs.Noting.{killed-step}
use Rattle.mr_master_tables.proofs.launches.note_kills.Goals as goal

pub loop-i-init : goal.loop-i-init
unfolding killed_by
loop-i-init c = record { noted = λ n killed at. at; count = refl }

pub loop-i-preserved : goal.loop-i-preserved
loop-i-preserved c = record {
  noted = λ n killed at.
      c.note_kill.ensures.noted n (killed_by _ killed) (c.loop-i.invariant.noted n killed at)
      ∙ ap (λ (f : ℕ → Bool). Some (f n)) (killed-step c.args.packets.now c.loop-i.i c.index-packets-i.result killed c.loop-i-test.true c.index-packets-i.is);
  count = c.note_kill.ensures.count ∙ c.loop-i.invariant.count;
}

pub returns-clause-noted : goal.returns-clause-noted
returns-clause-noted c = λ n killed at.
    c.loop-i.invariant.noted n killed at ∙ ap (λ (es : List Envelope). Some (killed_by es killed n)) (take_all c.loop-i.i c.args.packets.now c.loop-i-test.false)
