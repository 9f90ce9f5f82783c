-- A node is given up: what is planned, and what is sent.
use Rattle.std.proofs.Common.{ℕ, ◌≡◌, refl, sym, ◌∙◌, ap, List, [], Option, None, is_none, flat_map, if◌then◌else◌}
use Rattle.mr_ids.specs.Attempt.{Attempt}
use Rattle.mr_packet.specs.declared.packet.Envelope.{Envelope}
use Rattle.mr_master_model.specs.declared.phase.LaunchFault.{LaunchFault}
use Rattle.mr_master_model.specs.declared.setting.Setting.{Setting}
use Rattle.mr_master_model.specs.Past.{Expires}
use Rattle.mr_master_model.specs.Job.{all_maps, all_reduces}
use Rattle.mr_master_model.specs.Readings.{Seen, expire_refusal}
use Rattle.mr_master_model.specs.Hearing.{expired}
use Rattle.mr_master_model.specs.Sends.{kill_of}
use Rattle.mr_master_model.specs.Next.{moved, sent_by}
use Rattle.mr_master_state.specs.mr_master_tables.specs.Bars.{all_added}
use Rattle.mr_master_state.specs.mr_master_tables.specs.declared.gone.Gone.TheVariants.{GivenUp}
use Rattle.mr_master_state.specs.mr_master_tables.specs.Gone.{gone_of, lost_of}
use Rattle.mr_master_events.specs.inner.Expiring.{kills_on}
use Rattle.mr_master_state.specs.Told.{with_deaths, with_losses}
use Rattle.mr_master_state.specs.Prepared.{Prepared, Plans, PlansFor}
use Rattle.mr_master_state.specs.State.{Master, Keeps}
use Rattle.mr_master_events.proofs.Distinct.{bars-added}
use Rattle.mr_master_state.proofs.Losing.{given-same, given-up-is}
use Rattle.mr_master_state.proofs.Made.{plans-as}

-- the Kills to the maps' live attempts there
pub kills-are : (w : Setting) (s : Seen) (n : ℕ) (dead : List Attempt) (packets : List Envelope) → packets ≡ flat_map (kill_of w s) dead → dead ≡ flat_map (gone_of w s (GivenUp n)) (all_maps w) → packets ≡ kills_on w s n
kills-are w s n dead packets e f = e ∙ ap (λ (l : List Attempt). flat_map (kill_of w s) l) (f ∙ given-same w s n w.maps)

-- what is seen then
pub expired-is : (w : Setting) (s : Seen) (n : ℕ) (dead lost late : List Attempt) → dead ≡ flat_map (gone_of w s (GivenUp n)) (all_maps w) → lost ≡ flat_map (lost_of w s (GivenUp n)) (all_maps w)
    → late ≡ flat_map (gone_of w s (GivenUp n)) (all_reduces w) → record (with_losses w (with_deaths w s dead) lost) { bars = all_added s.bars late } ≡ expired w s n
expired-is w s n dead lost late e f g =
    let told = given-up-is w s n dead lost e f in
    let barred = bars-added w s n s.bars late (all_added s.bars late) refl g refl in
    λ i. record (told i) { bars = barred i }

-- by the refusal
pub plan-expiry : {m : Master} {r : Prepared} (n : ℕ) → ((w : Setting) (s : Seen) → Keeps m w s → expire_refusal w s n ≡ None) → Plans m r (λ w s. kills_on w s n) (λ w s. expired w s n) → PlansFor m (Expires n) r
unfolding moved sent_by
plan-expiry n none x = plans-as
    (λ w s k. ap (λ (o : Option LaunchFault). if is_none o then kills_on w s n else []) (sym (none w s k)))
    (λ w s k. ap (λ (o : Option LaunchFault). if is_none o then expired w s n else s) (sym (none w s k))) x
