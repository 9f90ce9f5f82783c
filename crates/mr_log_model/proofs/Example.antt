-- A run of a job with one task: an attempt is begun, and done; and the job is published.
use Rattle.std.proofs.Common.{if◌then◌else◌, ◌≡◌, ◌≢◌, ℕ, false, List, [], ◌∷◌, ◌++◌, Option, Some, None, refl, ap, ◌∙◌}
use Rattle.mr_ids.specs.Attempt.{Attempt}
use Rattle.mr_ids.specs.Same.{same_attempt}
use Rattle.mr_ids.specs.declared.id.JobId.{JobId}
use Rattle.mr_log_entries.specs.declared.line.Line.TheVariants as line
use Rattle.mr_log_entries.specs.declared.line.Handed.TheVariants as handed
use Rattle.mr_log_entries.specs.declared.entry.Entry.{Entry}
use Rattle.mr_log_entries.specs.declared.entry.Origin.{Origin}
use Rattle.mr_log_entries.specs.Recorded.{lines_of}
use Rattle.mr_log_disk.specs.declared.place.Item.{Item}
use Rattle.mr_log_disk.specs.declared.place.Node.{Node}
use Rattle.mr_log_disk.specs.declared.place.Node.TheVariants as node
use Rattle.mr_log_disk.specs.declared.place.Place.{Place}
use Rattle.mr_log_disk.specs.declared.place.Place.TheVariants.{Top, Marker}
use Rattle.mr_log_disk.specs.declared.place.Folder.{Folder}
use Rattle.mr_log_disk.specs.declared.place.Folder.TheVariants as folder
use Rattle.mr_log_disk.specs.declared.answer.Answer.TheVariants.{Says, Told, Listed}
use Rattle.mr_log_disk.specs.declared.answer.Reply.TheVariants.{Done}
use Rattle.mr_log_disk.specs.Names.{same_place, stands_in, moved, lasting}
use Rattle.mr_log_disk.specs.Log.{Disk, settled, AreThere, with_entry}
use Rattle.mr_log_disk.specs.Calls.{seen}
use Rattle.mr_log_standing.specs.declared.order.Order.TheVariants as order
use Rattle.mr_log_standing.specs.Host.{Host}
use Rattle.mr_log_standing.specs.Standing.{task_of, those_below, left, standing, winner_of, win_of, win_among, next_attempt, begun_in}
use Rattle.mr_log_standing.specs.Deciding.{idle, decided, concluded}
use Rattle.mr_log_steps.specs.Lists.{files_synced, folders_synced, wins}
use Rattle.mr_log_steps.specs.Turns.{acts, hears, reads, lists, begun_by}
use Rattle.mr_log_model.specs.Worlds.{Setting, World, begun}
use Rattle.mr_log_model.specs.Runs.{Move, Starts, Answers, Ends, May, happens, after, IsRun}
use Rattle.mr_log_model.specs.Visible.{SomeJobIsPublished}

abbrev id : JobId
id = record { start = 1; number = 1 }

abbrev setting : Setting
setting = record { job = record { id = id; tasks = 1; limit = None; hold = false }; folders = false; lists = λ a n. [] }

abbrev first : Attempt
first = record { task = task_of id 0; number = 0 }

abbrev host : Host
host = record { boot = 5; earlier = [] }

abbrev origin : ℕ → Origin
origin n = record { boot = 5; time = 1; id = n }

abbrev entry_1 : Entry
entry_1 = record { lines = line.Started first ∷ []; origin = origin 1 }

abbrev entry_2 : Entry
entry_2 = record { lines = line.Won first (handed.File 7 10) ∷ []; origin = origin 2 }

abbrev entry_3 : Entry
entry_3 = record { lines = line.Published ∷ []; origin = origin 2 }

abbrev log_synced : Disk → Disk
log_synced d = record { log = λ i. settled (d.log i); names = λ p. if stands_in folder.Log p then lasting (d.names p) else d.names p }

abbrev synced : Folder → Disk → Disk
synced f d = record { log = d.log; names = λ p. if stands_in f p then lasting (d.names p) else d.names p }

abbrev put : ℕ → Entry → Disk → Disk
put n e d = record { log = with_entry n e d; names = d.names }

abbrev named : Place → Node → Disk → Disk
named p n d = record { log = d.log; names = λ q. if same_place p q then moved (Some n) (d.names q) else d.names q }

abbrev d_0 : Disk
d_0 = begun.disk

abbrev d_1 : Disk
d_1 = put 0 entry_1 (log_synced d_0)

abbrev d_2 : Disk
d_2 = log_synced (log_synced d_1)

abbrev d_3 : Disk
d_3 = synced folder.Kept (synced (folder.Inside first 0) d_2)

abbrev d_4 : Disk
d_4 = log_synced (put 1 entry_2 d_3)

abbrev d_5 : Disk
d_5 = synced folder.Output (named (Top 0) (node.File 7) d_4)

abbrev d_6 : Disk
d_6 = synced folder.Output (named Marker (node.File 8) d_5)

abbrev d_7 : Disk
d_7 = log_synced (put 2 entry_3 d_6)

abbrev item : Item
item = record { item = 1; folder = 0; node = node.File 7; bytes = 10 }

abbrev done : Disk → Move
done d = Answers 0 (Says Done) d

-- an attempt is begun
abbrev begins : List Move
begins = Starts 0 order.StartNext host (origin 1) ∷ Answers 0 (Told []) d_0 ∷ done (log_synced d_0) ∷ done d_1 ∷ done (log_synced d_1) ∷ done (log_synced d_1) ∷ Ends 0 ∷ []

-- it is done, and the job is published
abbrev ends : List Move
ends =
    Starts 0 (order.Done first) host (origin 2) ∷ Answers 0 (Told (entry_1 ∷ [])) (log_synced d_1) ∷ done d_2 ∷ done d_2 ∷ done d_2 ∷ Answers 0 (Listed (item ∷ [])) d_2 ∷ done d_2 ∷ done (synced (folder.Inside first 0) d_2)
    ∷ done (synced (folder.Inside first 0) d_2) ∷ done d_3 ∷ done (put 1 entry_2 d_3) ∷ done d_4 ∷ done (named (Top 0) (node.File 7) d_4) ∷ done d_5 ∷ done (named Marker (node.File 8) d_5) ∷ done d_6 ∷ done (put 2 entry_3 d_6) ∷ done d_7 ∷ []

begun-run : IsRun setting begun begins
unfolding same_attempt IsRun after May happens AreThere hears reads lists acts decided concluded idle those_below next_attempt lines_of begun_by winner_of standing begun_in left wins win_of win_among files_synced folders_synced
begun-run = (
  (refl, refl),
  (
    (record { log = (tt, λ i. refl); names = λ p v. refl }, tt),
    (
      (record { log = λ i. refl; names = λ p v. refl }, tt),
      (
        (record { log = record { was_absent = refl; is = λ i. refl }; names = λ p v. refl }, tt),
        (
          (record { log = λ i. refl; names = λ p v. refl }, tt),
          (
            (record { log = λ i. refl; names = λ p v. refl }, tt),
            (tt, tt),
          ),
        ),
      ),
    ),
  ),
)

ended-run : IsRun setting (after setting begun begins) ends
unfolding same_attempt IsRun after May happens AreThere hears reads lists acts decided concluded idle those_below next_attempt lines_of begun_by winner_of standing begun_in left wins win_of win_among files_synced folders_synced
ended-run = (
  (refl, refl),
  (
    (record { log = ((refl, tt), λ i. refl); names = λ p v. refl }, tt),
    (
      (record { log = λ i. refl; names = λ p v. refl }, tt),
      (
        (record { log = λ i. refl; names = λ p v. refl }, tt),
        (
          (record { log = λ i. refl; names = λ p v. refl }, tt),
          (
            (record { log = λ i. refl; names = λ p v. refl }, tt),
            (
              (record { log = λ i. refl; names = λ p v. refl }, tt),
              (
                (record { log = λ i. refl; names = λ p v. refl }, tt),
                (
                  (record { log = λ i. refl; names = λ p v. refl }, tt),
                  (
                    (record { log = λ i. refl; names = λ p v. refl }, tt),
                    (
                      (record { log = record { was_absent = refl; is = λ i. refl }; names = λ p v. refl }, tt),
                      (
                        (record { log = λ i. refl; names = λ p v. refl }, tt),
                        (
                          (record { log = λ i. refl; names = record { node = node.File 7; was = refl; is = λ q v. refl } }, tt),
                          (
                            (record { log = λ i. refl; names = λ p v. refl }, tt),
                            (
                              (record { log = λ i. refl; names = record { node = node.File 8; was = refl; is = λ q v. refl } }, tt),
                              (
                                (record { log = λ i. refl; names = λ p v. refl }, tt),
                                (
                                  (record { log = record { was_absent = refl; is = λ i. refl }; names = λ p v. refl }, tt),
                                  ((record { log = λ i. refl; names = λ p v. refl }, tt), tt),
                                ),
                              ),
                            ),
                          ),
                        ),
                      ),
                    ),
                  ),
                ),
              ),
            ),
          ),
        ),
      ),
    ),
  ),
)

-- one run after another
both-run : (s : Setting) (w : World) (xs ys : List Move) → IsRun s w xs → IsRun s (after s w xs) ys → IsRun s w (xs ++ ys)
unfolding IsRun after
both-run s w [] ys r q = q
both-run s w (x ∷ xs) ys r q = (r.0, both-run s (happens s w x) xs ys r.1 q)

after-both : (s : Setting) (w : World) (xs ys : List Move) → after s w (xs ++ ys) ≡ after s (after s w xs) ys
unfolding after
after-both s w [] ys = refl
after-both s w (x ∷ xs) ys = after-both s (happens s w x) xs ys

marked : seen (after setting (after setting begun begins) ends).disk Marker ≡ Some (node.File 8)
unfolding same_attempt IsRun after May happens AreThere hears reads lists acts decided concluded idle those_below next_attempt lines_of begun_by winner_of standing begun_in left wins win_of win_among files_synced folders_synced
marked = refl

some-none : (x : Option Node) (n : Node) → x ≡ Some n → x ≢ None
some-none x n e f = absurd (cc)

pub published : SomeJobIsPublished
published = (
  setting,
  begins ++ ends,
  both-run setting begun begins ends begun-run ended-run,
  some-none (seen (after setting begun (begins ++ ends)).disk Marker) (node.File 8) (ap (λ (w : World). seen w.disk Marker) (after-both setting begun begins ends) ∙ marked),
)
