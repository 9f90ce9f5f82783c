-- Room is made: room aside nothing changes, and where memory is refused at an expiry, nothing at all.
use Rattle.std.proofs.Common.{ℕ, ◌≤◌, ◌≡◌, refl, sym, subst, ◌∙◌, Option, Vec, Global, Result, Ok, Err, OnOk, OnErr}
use Rattle.std.specs.declared.alloc.AllocError.{AllocError}
use Rattle.mr_ids.specs.Attempt.{Attempt}
use Rattle.mr_ids.specs.declared.id.TaskId.{TaskId}
use Rattle.mr_task.specs.Steps.{Task}
use Rattle.mr_task.specs.declared.reply.DoneReply.{DoneReply}
use Rattle.mr_history.specs.declared.record.Record.{Record}
use Rattle.mr_master_model.specs.declared.launch.Launch.{Launch}
use Rattle.mr_master_tables.specs.Bars.{Bars}
use Rattle.mr_master_tables.specs.Launches.{Launched, SameLaunches}
use Rattle.mr_master_tables.specs.Records.{Writing, SameRecords}
use Rattle.mr_master_state.specs.declared.change.Change.{Change}
use Rattle.mr_master_state.specs.declared.change.Change.TheVariants as change
use Rattle.mr_master_state.specs.declared.change.Room.{Room}
use Rattle.mr_master_state.specs.declared.change.Room.TheVariants as room
use Rattle.mr_master_tasks.specs.declared.ending.Ending.{Ending}
use Rattle.mr_master_state.specs.declared.blame.Blame.{Blame}
use Rattle.mr_master_state.specs.Prepared.{room_of, HasRoomFor, HasRoom, HasLaunchRoom, IsForBars, IsExpiry}
use Rattle.mr_master_state.specs.State.{Master, Unchanged}

-- ---- room aside nothing changes

pub records-aside : {m n : Master} (writing : Writing) → m ≡ n → SameRecords m.writing writing → Unchanged n (record m { writing = writing })
records-aside {m} writing is same = subst (λ (x : Master). Unchanged x (record m { writing = writing })) is (record { is = refl; launches = record { entries = refl; killed = refl }; writing = same; bars = refl })

pub bars-aside : {m n : Master} (bars : Bars) → m ≡ n → bars.due ≡ m.bars.due → Unchanged n (record m { bars = bars })
bars-aside {m} bars is same = subst (λ (x : Master). Unchanged x (record m { bars = bars })) is (record { is = refl; launches = record { entries = refl; killed = refl }; writing = record { due = refl; tail = refl; is_flush_wanted = refl }; bars = same })

pub launch-aside : {m n : Master} (launches : Launched) (writing : Writing) → m ≡ n → SameLaunches m.launches launches → SameRecords m.writing writing → Unchanged n (record m { launches = launches; writing = writing })
launch-aside {m} launches writing is like same = subst (λ (x : Master). Unchanged x (record m { launches = launches; writing = writing })) is (record { is = refl; launches = like; writing = same; bars = refl })

-- ---- there is room

pub records-room : {m n : Master} (writing : Writing) (c : Change) (k : ℕ) (r : Result (Unit {0}) AllocError) → m ≡ n → room.Records k ≡ room_of c → OnOk r (k ≤ writing.room) → OnOk r (k ≤ writing.tail_room) → OnOk r (HasRoom (record m { writing = writing }) c)
records-room {m} writing c k (Ok u) is wants due tail = subst (λ (x : Room). HasRoomFor (record m { writing = writing }) x) wants (record { due = due; tail = tail })
records-room writing c k (Err e) is wants due tail = tt

pub launch-room : (m : Master) (c : Change) (t : TaskId) (k : ℕ) (r : Result (Unit {0}) AllocError) → room.Launch t k ≡ room_of c → OnOk r (HasLaunchRoom m) → OnOk r (HasRoom m c)
launch-room m c t k (Ok u) wants has = subst (λ (x : Room). HasRoomFor m x) wants has
launch-room m c t k (Err e) wants has = tt

pub bars-room : {m n : Master} (bars : Bars) (c : Change) (k : ℕ) (r : Result (Unit {0}) AllocError) → m ≡ n → room.Bars k ≡ room_of c → OnOk r (k ≤ bars.room) → OnOk r (HasRoom (record m { bars = bars }) c)
bars-room {m} bars c k (Ok u) is wants has = subst (λ (x : Room). HasRoomFor (record m { bars = bars }) x) wants has
bars-room bars c k (Err e) is wants has = tt

-- ---- an expiry that is refused memory

pub records-apart : {m n : Master} (writing : Writing) (c : Change) (k : ℕ) (r : Result (Unit {0}) AllocError) → m ≡ n → room.Records k ≡ room_of c → OnErr r (IsExpiry c → record m { writing = writing } ≡ n)
records-apart writing c k (Ok u) is wants = tt
records-apart writing c k (Err e) is wants = λ x. absurd (subst IsForBars (sym wants) x)

pub launch-apart : (P : Type 0) (c : Change) (t : TaskId) (k : ℕ) (r : Result (Unit {0}) AllocError) → room.Launch t k ≡ room_of c → OnErr r (IsExpiry c → P)
launch-apart P c t k (Ok u) wants = tt
launch-apart P c t k (Err e) wants = λ x. absurd (subst IsForBars (sym wants) x)

pub bars-equal : {m n : Master} (bars : Bars) (c : Change) (r : Result (Unit {0}) AllocError) → m ≡ n → OnErr r (bars ≡ m.bars) → OnErr r (IsExpiry c → record m { bars = bars } ≡ n)
bars-equal bars c (Ok u) is same = tt
bars-equal {m} bars c (Err e) is same = λ x. (λ i. record m { bars = same i }) ∙ is

-- ---- what wants no room for a launch or for bars

pub no-room : (c : Change) → ((i : ℕ) (a : Attempt) (reply : DoneReply) (due : Option Record) → c ≡ change.Reports i a reply due → ⊥) → ((i : ℕ) (a : Attempt) (e : Ending) (b : Blame) → c ≡ change.Ends i a e b → ⊥)
    → ((i : ℕ) (a : Attempt) (y : Task) (l : Launch) → c ≡ change.Launches i a y l → ⊥) → ((dead lost late : Vec Attempt Global) → c ≡ change.GivesUp dead lost late → ⊥) → room.Records 0 ≡ room_of c
no-room (change.Reports i a reply due) r e l g = absurd (r i a reply due refl)
no-room (change.Ends i a end b) r e l g = absurd (e i a end b refl)
no-room (change.Launches i a y launch) r e l g = absurd (l i a y launch refl)
no-room (change.GivesUp dead lost late) r e l g = absurd (g dead lost late refl)
no-room _ r e l g = refl
