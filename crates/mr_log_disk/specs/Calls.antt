-- Which answers a disk may give to a call, and what its log is then. That a symbolic link is made whole and by one alone is POSIX; that a call
-- may be sent twice, and then finds what it made, is NFS's.
use Rattle.std.specs.Prelude.{◌≡◌, ◌≢◌, ◌⊎◌, ℕ, Option, Some, None, if◌then◌else◌}
use Rattle.mr_log_entries.specs.declared.entry.Entry.{Entry}
use Rattle.mr_log_disk.specs.declared.place.Folder.{Folder}
use Rattle.mr_log_disk.specs.declared.place.Folder.TheVariants as folder
use Rattle.mr_log_disk.specs.declared.call.Call.{Call}
use Rattle.mr_log_disk.specs.declared.place.Node.{Node}
use Rattle.mr_log_disk.specs.declared.place.Place.{Place}
use Rattle.mr_log_disk.specs.declared.place.Place.TheVariants.{Marker}
use Rattle.mr_log_disk.specs.declared.call.Call.TheVariants.{ReadLog, Put, SyncFolder, Link, MakeFolder, LinkMarker, Look}
use Rattle.mr_log_disk.specs.declared.answer.Answer.{Answer}
use Rattle.mr_log_disk.specs.declared.answer.Answer.TheVariants.{Says, Told}
use Rattle.mr_log_disk.specs.declared.answer.Reply.TheVariants.{Done, Taken, Found, Failed}
use Rattle.mr_log_disk.specs.Names.{IsVisible, same_place, stands_in, moved, lasting}
use Rattle.mr_log_disk.specs.Log.{Absent, Disk, AreThere, with_entry, settled}

-- the log is the same
abbrev pub LogStays : Disk → Disk → Type 0
LogStays d new = (i : ℕ) → new.log i ≡ d.log i

-- the name was absent, and the entry was made there
pub record IsMade (d : Disk) (number : ℕ) (entry : Entry) (new : Disk) : Type 0 where
  pub was_absent : d.log number ≡ Absent
  pub is : (i : ℕ) → new.log i ≡ with_entry number entry d i

-- each entry is durable
abbrev pub LogIsSynced : Disk → Disk → Type 0
LogIsSynced d new = (i : ℕ) → new.log i ≡ settled (d.log i)

-- any of them may be
abbrev pub LogMayBeSynced : Disk → Disk → Type 0
LogMayBeSynced d new = (i : ℕ) → (new.log i ≡ d.log i) ⊎ (new.log i ≡ settled (d.log i))

abbrev pub Puts : Disk → ℕ → Entry → Answer → Disk → Type 0
Puts d number entry (Says Done) new = IsMade d number entry new
Puts d number entry (Says Taken) new = ((d.log number ≢ Absent) × LogStays d new) ⊎ IsMade d number entry new
Puts d number entry (Says Failed) new = LogStays d new ⊎ IsMade d number entry new
Puts d number entry answer new = LogStays d new

abbrev pub Syncs : Disk → Folder → Answer → Disk → Type 0
Syncs d folder.Log (Says Done) new = LogIsSynced d new
Syncs d folder.Log answer new = LogMayBeSynced d new
Syncs d other answer new = LogStays d new

-- a reading tells entries that stand there: all of them, or fewer
abbrev pub Reads : Disk → ℕ → Answer → Disk → Type 0
Reads d from (Told es) new = AreThere d from es × LogStays d new
Reads d from answer new = LogStays d new

abbrev pub EffectOnLog : Disk → Call → Answer → Disk → Type 0
EffectOnLog d (ReadLog from) answer new = Reads d from answer new
EffectOnLog d (Put number entry) answer new = Puts d number entry answer new
EffectOnLog d (SyncFolder folder) answer new = Syncs d folder answer new
EffectOnLog d call answer new = LogStays d new

-- ---- visible names

-- what stands at a name
abbrev pub seen : Disk → Place → Option Node
seen d p = (d.names p).now

-- the visible names are the same
abbrev pub NamesStay : Disk → Disk → Type 0
NamesStay d new = (p : Place) → IsVisible p → new.names p ≡ d.names p

-- nothing stood at the name, and this stands there now
pub record IsNamed (d : Disk) (p : Place) (new : Disk) : Type 0 where
  pub node : Node
  pub was : seen d p ≡ None
  pub is : (q : Place) → IsVisible q → new.names q ≡ (if same_place p q then moved (Some node) (d.names q) else d.names q)

abbrev pub Names : Disk → Place → Answer → Disk → Type 0
Names d p (Says Done) new = IsNamed d p new
Names d p (Says Taken) new = ((seen d p ≢ None) × NamesStay d new) ⊎ IsNamed d p new
Names d p (Says Failed) new = NamesStay d new ⊎ IsNamed d p new
Names d p answer new = NamesStay d new

-- what stands in the folder is durable
abbrev pub FolderIsSynced : Disk → Folder → Disk → Type 0
FolderIsSynced d folder new = (p : Place) → IsVisible p → new.names p ≡ (if stands_in folder p then lasting (d.names p) else d.names p)

-- any name may be
abbrev pub NamesMayBeSynced : Disk → Disk → Type 0
NamesMayBeSynced d new = (p : Place) → IsVisible p → (new.names p ≡ d.names p) ⊎ (new.names p ≡ lasting (d.names p))

abbrev pub SyncsNames : Disk → Folder → Answer → Disk → Type 0
SyncsNames d folder (Says Done) new = FolderIsSynced d folder new
SyncsNames d folder answer new = NamesMayBeSynced d new

abbrev pub Looks : Disk → Place → Answer → Disk → Type 0
Looks d p (Says (Found node)) new = (seen d p ≡ Some node) × NamesStay d new
Looks d p answer new = NamesStay d new

abbrev pub EffectOnNames : Disk → Call → Answer → Disk → Type 0
EffectOnNames d (Link from to) answer new = Names d to answer new
EffectOnNames d (MakeFolder p) answer new = Names d p answer new
EffectOnNames d LinkMarker answer new = Names d Marker answer new
EffectOnNames d (SyncFolder folder) answer new = SyncsNames d folder answer new
EffectOnNames d (Look p) answer new = Looks d p answer new
EffectOnNames d call answer new = NamesStay d new

-- a disk may answer so, and be this one then
pub record Effect (d : Disk) (x : Call) (answer : Answer) (new : Disk) : Type 0 where
  pub log : EffectOnLog d x answer new
  pub names : EffectOnNames d x answer new
