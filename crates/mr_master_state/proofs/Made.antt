-- What is planned, from its parts and in other words; that it stays so as room is made; and which past the machine stands for once it is taken.
use Rattle.std.proofs.Common.{ℕ, ◌≡◌, sym, ap, subst, ◌∙◌, Bool, true, false, List, [], is_some, length, if◌then◌else◌, arith}
use Rattle.std.specs.Map.{lookup}
use Rattle.std.proofs.lemmas.Bool.Decides.{nat_tests}
use Rattle.mr_ids.specs.Attempt.{Attempt}
use Rattle.mr_grant.specs.Attempts.{same_attempt}
use Rattle.mr_packet.specs.declared.packet.Envelope.{Envelope}
use Rattle.mr_master_model.specs.declared.launch.Launch.{Launch}
use Rattle.mr_master_model.specs.declared.setting.Setting.{Setting}
use Rattle.mr_master_model.specs.declared.store.StoreAnswer.{StoreAnswer}
use Rattle.mr_master_model.specs.Past.{Step, Answered}
use Rattle.mr_master_model.specs.Readings.{Seen}
use Rattle.mr_master_model.specs.Duty.{duty}
use Rattle.mr_master_model.specs.Next.{moved, sent_by, next_seen, seen, with_kills}
use Rattle.mr_master_model.specs.Sends.{killed_by}
use Rattle.mr_master_model.proofs.Killing.{kills_go_to_launched}
use Rattle.mr_master_tables.specs.Bars.{Bars}
use Rattle.mr_master_tables.specs.Launches.{Launched}
use Rattle.mr_master_tables.specs.Records.{Writing}
use Rattle.mr_master_state.specs.declared.change.Change.{Change}
use Rattle.mr_master_state.specs.declared.change.Change.TheVariants as change
use Rattle.mr_master_phase.specs.Answering.{answered_sends, answered_seen}
use Rattle.mr_master_state.specs.Prepared.{Prepared, changed_by, IsAt, IsNothing, IsSound, HasRoom, Plans, PlansFor, IsReadyFor, PlansDue}
use Rattle.mr_master_state.specs.State.{Master, Keeps, Reads, MovesOn, Stands, Unchanged}
use Rattle.mr_master_state.proofs.Standing.{keeps-back}

-- the same packets and the same change, read in other words
pub plans-as : {m : Master} {r : Prepared} {f g : Setting → Seen → List Envelope} {p q : Setting → Seen → Seen} → ((w : Setting) (s : Seen) → Keeps m w s → f w s ≡ g w s) → ((w : Setting) (s : Seen) → Keeps m w s → p w s ≡ q w s)
    → Plans m r f p → Plans m r g q
plans-as sends after x = record { sound = x.sound; sent = λ w s k. x.sent w s k ∙ sends w s k; seen = λ w s k. x.seen w s k ∙ after w s k }

-- from its parts
pub plan-as : {m : Master} {r : Prepared} {f : Setting → Seen → List Envelope} {p : Setting → Seen → Seen} (packets : List Envelope) (change : Change) → r ≡ record { packets = packets; change = change } → IsSound m change → Reads m f packets
    → ((w : Setting) (s : Seen) → Keeps m w s → changed_by w s change ≡ p w s) → Plans m r f p
plan-as {m} {r} {f} {p} packets change e sound sent seen = subst (λ (x : Prepared). Plans m x f p) (sym e) (record { sound = sound; sent = sent; seen = seen })

-- ---- an answer

-- a call is due
pub due-plan : {m : Master} {r : Prepared} (a : StoreAnswer) → ((w : Setting) (s : Seen) → Keeps m w s → is_some (duty w s) ≡ true) → PlansDue m a r → PlansFor m (Answered a) r
unfolding moved sent_by
due-plan a due x = plans-as
    (λ w s k. ap (λ (b : Bool). if b then answered_sends w s a else []) (sym (due w s k)))
    (λ w s k. ap (λ (b : Bool). if b then answered_seen w s a else s) (sym (due w s k))) x

-- none is due
pub idle-plan : {m : Master} {r : Prepared} (a : StoreAnswer) → ((w : Setting) (s : Seen) → Keeps m w s → is_some (duty w s) ≡ false) → r ≡ record { packets = []; change = change.Nothing } → PlansFor m (Answered a) r
unfolding moved sent_by
idle-plan a none e = plan-as [] change.Nothing e tt
    (λ w s k. ap (λ (b : Bool). if b then answered_sends w s a else []) (sym (none w s k)))
    (λ w s k. ap (λ (b : Bool). if b then answered_seen w s a else s) (sym (none w s k)))

-- ---- there is room

at-still : (m : Master) (launches : Launched) (writing : Writing) (bars : Bars) {i : ℕ} {a : Attempt} → Unchanged m (record m { launches = launches; writing = writing; bars = bars }) → IsAt m i a → IsAt (record m { launches = launches; writing = writing; bars = bars }) i a
at-still m launches writing bars u x = record { within = x.within; own = λ w s k. x.own w s (keeps-back _ _ w s u k); at = λ w s k. x.at w s (keeps-back _ _ w s u k) }

sound-still : (m : Master) (launches : Launched) (writing : Writing) (bars : Bars) (c : Change) → Unchanged m (record m { launches = launches; writing = writing; bars = bars }) → IsSound m c → IsSound (record m { launches = launches; writing = writing; bars = bars }) c
sound-still m ls ws bs (change.GoesOn following) u x = x
sound-still m ls ws bs (change.EntersOne i y work) u x = record { winner = x.winner; told = x.told; is = x.is; own = x.own; at = x.at }
sound-still m ls ws bs (change.Enters tasks work) u x = λ w s k. x w s (keeps-back _ _ w s u k)
sound-still m ls ws bs (change.Hears i a) u x = at-still m ls ws bs u x
sound-still m ls ws bs (change.Asks i a y) u x = (at-still m ls ws bs u x.0, x.1)
sound-still m ls ws bs (change.Reports i a reply due) u x = (at-still m ls ws bs u x.0, x.1)
sound-still m ls ws bs (change.Ends i a e b) u x = at-still m ls ws bs u x
sound-still m ls ws bs (change.Loses i a) u x = at-still m ls ws bs u x
sound-still m ls ws bs (change.Knows n i nodes dead lost) u x = λ w s k. x w s (keeps-back _ _ w s u k)
sound-still m ls ws bs (change.Launches i a y l) u x = record {
  at = at-still m ls ws bs u x.at;
  told = x.told;
  new = ap (λ (xs : List (Attempt × Launch)). lookup (same_attempt a) xs) u.launches.entries ∙ x.new;
}
sound-still m ls ws bs _ u x = tt

-- what is planned stays so
pub planned-still : (old new : Master) (step : Step) (r : Prepared) → Unchanged old new → PlansFor old step r → PlansFor new step r
planned-still old new step r u x = record {
  sound = subst (λ (m : Master). IsSound m r.change) (sym u.is) (sound-still old new.launches new.writing new.bars r.change (subst (λ (m : Master). Unchanged old m) u.is u) x.sound);
  sent = λ w s k. x.sent w s (keeps-back old new w s u k);
  seen = λ w s k. x.seen w s (keeps-back old new w s u k);
}

-- and where there is room for it, it is ready
pub now-ready : (old new : Master) (step : Step) (r : Prepared) → Unchanged old new → HasRoom new r.change → PlansFor old step r → IsReadyFor new step r
now-ready old new step r u room x = (planned-still old new step r u x, room)

-- ---- which past the machine stands for then

pub step-stands : (old new : Master) (step : Step) (r : Prepared) → PlansFor old step r → MovesOn old (λ w s. with_kills r.packets (changed_by w s r.change)) new → Stands old step new
unfolding seen next_seen
step-stands old new step r x moves w past k =
    let s = seen w past in
    let spared = kills_go_to_launched w past (length s.launched) (grind (arith, nat_tests)) in
    subst (λ (t : Seen). Keeps new w t) (λ i. with_kills (x.sent w s k i) (x.seen w s k i)) (moves w s k spared)

-- nothing is sent and nothing changes: it stands for the step as it is
pub nothing-stands : (m : Master) (step : Step) (r : Prepared) → IsNothing r → PlansFor m step r → Stands m step m
unfolding killed_by
nothing-stands m step r none x = step-stands m m step r x (λ w s k spared.
    subst (λ (c : Change). Keeps m w (with_kills r.packets (changed_by w s c))) (sym none.still)
    (subst (λ (l : List Envelope). Keeps m w (with_kills l s)) (sym none.silent) k))
