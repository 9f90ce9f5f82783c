use Rattle.std.proofs.Common.{◌≡◌, ℕ, subst, length, arith}
use Rattle.mr_ids.specs.declared.id.TaskKind.TheVariants.{Map, Reduce}
use Rattle.mr_master_tasks.specs.Progress.{waits, is_open, HasRoom, FollowsAllTo}
use Rattle.mr_master_tasks.proofs.Following.{follows-none, one-more-all, room-stays, room-below}
use Rattle.mr_master_tasks.proofs.progress.Progress.of.Goals as goal

pub loop-i-init : goal.loop-i-init
loop-i-init c =
    let progress = c.in_ok-progress.progress in
    let machines = c.args.machines.now.items in
    let count : c.len.result ≡ length machines = omega arith in
    let e = c.in_ok-progress.ensures in
    record {
      room = subst (λ (n : ℕ). HasRoom progress n) count e.room;
      follows = record {
        waiting = follows-none progress.waiting waits machines e.waiting;
        open_maps = follows-none progress.open_maps (is_open Map) machines e.open_maps;
        open_reduces = follows-none progress.open_reduces (is_open Reduce) machines e.open_reduces;
      };
    }

pub note-requires : goal.note-requires
note-requires c = room-below c.loop-i.progress (length c.args.machines.now.items) c.loop-i.i c.loop-i.invariant.room (omega arith)

pub loop-i-preserved : goal.loop-i-preserved
loop-i-preserved c =
    let machines = c.args.machines.now.items in
    let x = c.index.result.now in
    record {
      room = room-stays c.loop-i.progress c.note.new.self (length machines) c.loop-i.i x c.loop-i.invariant.room c.note.ensures;
      follows = one-more-all c.loop-i.progress c.note.new.self machines c.loop-i.i x c.loop-i.invariant.follows c.note.ensures c.index.ensures;
    }

pub returns : goal.returns
returns c =
    let machines = c.args.machines.now.items in
    let all : c.loop-i.i ≡ length machines = omega arith in
    record {
      room = c.loop-i.invariant.room;
      follows = subst (λ (n : ℕ). FollowsAllTo n c.loop-i.progress machines) all c.loop-i.invariant.follows;
    }
