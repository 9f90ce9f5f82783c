-- What stands for a past.
use Rattle.std.proofs.Common.{ℕ, ◌∙◌, sym, ap, subst, Bool, List, [], length, slice_get}
use Rattle.mr_ids.specs.Attempt.{Attempt}
use Rattle.mr_master_model.specs.declared.launch.Launch.{Launch}
use Rattle.mr_master_model.specs.declared.setting.Setting.{Setting}
use Rattle.mr_master_model.specs.Past.{Step}
use Rattle.mr_master_model.specs.Readings.{Seen, opening}
use Rattle.mr_master_model.specs.Next.{seen}
use Rattle.mr_master_tables.specs.Launches.{Launched, KeepsLaunches, SameLaunches}
use Rattle.mr_master_state.specs.State.{Master, Keeps, StandsFor, StandsForSome, Stands, StandsStill, Unchanged}

same-launches : (m n : Launched) (launched : List (Attempt × Launch)) (killed : ℕ → Bool) → SameLaunches m n → KeepsLaunches m launched killed → KeepsLaunches n launched killed
same-launches m n launched killed same k = record {
  entries = same.entries ∙ k.entries;
  count = ap (λ (bs : List Bool). length bs) same.killed ∙ k.count;
  killed = λ i within. ap (λ (bs : List Bool). slice_get bs i) same.killed ∙ k.killed i within;
}

pub stands-at-first : (m : Master) (w : Setting) → Keeps m w opening → StandsFor m w []
unfolding seen
stands-at-first m w k = k

pub stands-for-some : (m : Master) (w : Setting) (past : List Step) → StandsFor m w past → StandsForSome m
stands-for-some m w past k = (past, subst (λ (v : Setting). StandsFor m v past) (sym k.setting) k)

-- ---- room aside the same

pub unchanged-keeps : (old new : Master) (w : Setting) (s : Seen) → Unchanged old new → Keeps old w s → Keeps new w s
unchanged-keeps old new w s u k = subst (λ (m : Master). Keeps m w s) (sym u.is) (record {
  setting = k.setting;
  work = k.work;
  tasks = k.tasks;
  launches = same-launches old.launches new.launches s.launched s.killed u.launches k.launches;
  nodes = k.nodes;
  earlier = k.earlier;
  writing = record { due = u.writing.due ∙ k.writing.due; tail = u.writing.tail ∙ k.writing.tail; is_flush_wanted = u.writing.is_flush_wanted ∙ k.writing.is_flush_wanted };
  bars = u.bars ∙ k.bars;
})

pub keeps-back : (old new : Master) (w : Setting) (s : Seen) → Unchanged old new → Keeps new w s → Keeps old w s
keeps-back old new w s u kept =
    let k = subst (λ (m : Master). Keeps m w s) u.is kept in
    record {
      setting = k.setting;
      work = k.work;
      tasks = k.tasks;
      launches = same-launches new.launches old.launches s.launched s.killed (record { entries = sym u.launches.entries; killed = sym u.launches.killed }) k.launches;
      nodes = k.nodes;
      earlier = k.earlier;
      writing = record { due = sym u.writing.due ∙ k.writing.due; tail = sym u.writing.tail ∙ k.writing.tail; is_flush_wanted = sym u.writing.is_flush_wanted ∙ k.writing.is_flush_wanted };
      bars = sym u.bars ∙ k.bars;
    }

-- room is made, and the step is taken
pub then-stands : (old mid new : Master) (step : Step) → StandsStill old mid → Stands mid step new → Stands old step new
then-stands old mid new step still stands w past k = stands w past (still w past k)
