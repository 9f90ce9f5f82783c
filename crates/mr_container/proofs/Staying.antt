-- Bytes that were handed in stay, and so do the blocks from which they were computed.
use Rattle.std.proofs.Common.{◌≡◌, ◌&&◌, ℕ, Bool, true, false, cond, List, [], ◌∷◌, ◌++◌, refl, ◌∙◌}
use Rattle.mr_ids.specs.Attempt.{Attempt}
use Rattle.mr_ids.specs.declared.id.TaskKind.{TaskKind}
use Rattle.mr_ids.specs.declared.id.TaskKind.TheVariants.{Map, Reduce}
use Rattle.mr_packet.specs.declared.packet.Packet.TheVariants as packet
use Rattle.mr_container.specs.declared.reply.Reply.{Reply}
use Rattle.mr_container.specs.declared.wish.Wish.{Wish}
use Rattle.mr_container.specs.declared.wish.Wish.TheVariants as wish
use Rattle.mr_container.specs.Past.{Step, Hears, Sends, Computes, Calls}
use Rattle.mr_container.specs.Readings.{Seen, seen, next_seen, with_wish, with_piece, with_result, after_packet, is_awaited, asks_where, fetches, is_computing, is_reporting, same_attempt, answered, wish_sent, wish_called, or_abort, is_fine, is_found, is_cleared}
use Rattle.mr_container.specs.Laws.{has_computed, Kept, BytesStay}

asks-not : (w : Wish) (map : ℕ) → has_computed w ≡ true → asks_where w map ≡ false
unfolding has_computed
asks-not (wish.Where m) map h = absurd (cc)
asks-not (wish.Fetch b n i) map h = absurd (cc)
asks-not (wish.Lost b) map h = absurd (cc)
asks-not wish.Compute map h = absurd (cc)
asks-not wish.Mkdirs map h = refl
asks-not wish.Create map h = refl
asks-not wish.Write map h = refl
asks-not wish.Close map h = refl
asks-not wish.Needs map h = refl
asks-not wish.Pending map h = refl
asks-not wish.Poll map h = refl
asks-not wish.Look map h = refl
asks-not wish.Clear map h = refl
asks-not wish.Rename map h = refl
asks-not wish.Report map h = refl
asks-not wish.Abort map h = refl
asks-not wish.Failed map h = refl
asks-not wish.Over map h = refl

fetches-not : (w : Wish) (a : Attempt) → has_computed w ≡ true → fetches w a ≡ false
unfolding has_computed
fetches-not (wish.Where m) a h = absurd (cc)
fetches-not (wish.Fetch b n i) a h = absurd (cc)
fetches-not (wish.Lost b) a h = absurd (cc)
fetches-not wish.Compute a h = absurd (cc)
fetches-not wish.Mkdirs a h = refl
fetches-not wish.Create a h = refl
fetches-not wish.Write a h = refl
fetches-not wish.Close a h = refl
fetches-not wish.Needs a h = refl
fetches-not wish.Pending a h = refl
fetches-not wish.Poll a h = refl
fetches-not wish.Look a h = refl
fetches-not wish.Clear a h = refl
fetches-not wish.Rename a h = refl
fetches-not wish.Report a h = refl
fetches-not wish.Abort a h = refl
fetches-not wish.Failed a h = refl
fetches-not wish.Over a h = refl

computes-not : (w : Wish) → has_computed w ≡ true → is_computing w ≡ false
unfolding has_computed
computes-not (wish.Where m) h = absurd (cc)
computes-not (wish.Fetch b n i) h = absurd (cc)
computes-not (wish.Lost b) h = absurd (cc)
computes-not wish.Compute h = absurd (cc)
computes-not wish.Mkdirs h = refl
computes-not wish.Create h = refl
computes-not wish.Write h = refl
computes-not wish.Close h = refl
computes-not wish.Needs h = refl
computes-not wish.Pending h = refl
computes-not wish.Poll h = refl
computes-not wish.Look h = refl
computes-not wish.Clear h = refl
computes-not wish.Rename h = refl
computes-not wish.Report h = refl
computes-not wish.Abort h = refl
computes-not wish.Failed h = refl
computes-not wish.Over h = refl

answered-yes : (w : Wish) → has_computed w ≡ true → has_computed (answered true w) ≡ true
unfolding has_computed
answered-yes (wish.Where m) h = absurd (cc)
answered-yes (wish.Fetch b n i) h = absurd (cc)
answered-yes (wish.Lost b) h = absurd (cc)
answered-yes wish.Compute h = absurd (cc)
answered-yes wish.Mkdirs h = refl
answered-yes wish.Create h = refl
answered-yes wish.Write h = refl
answered-yes wish.Close h = refl
answered-yes wish.Needs h = refl
answered-yes wish.Pending h = refl
answered-yes wish.Poll h = refl
answered-yes wish.Look h = refl
answered-yes wish.Clear h = refl
answered-yes wish.Rename h = refl
answered-yes wish.Report h = refl
answered-yes wish.Abort h = refl
answered-yes wish.Failed h = refl
answered-yes wish.Over h = refl

answered-no : (w : Wish) → has_computed w ≡ true → has_computed (answered false w) ≡ true
unfolding has_computed
answered-no (wish.Where m) h = absurd (cc)
answered-no (wish.Fetch b n i) h = absurd (cc)
answered-no (wish.Lost b) h = absurd (cc)
answered-no wish.Compute h = absurd (cc)
answered-no wish.Mkdirs h = refl
answered-no wish.Create h = refl
answered-no wish.Write h = refl
answered-no wish.Close h = refl
answered-no wish.Needs h = refl
answered-no wish.Pending h = refl
answered-no wish.Poll h = refl
answered-no wish.Look h = refl
answered-no wish.Clear h = refl
answered-no wish.Rename h = refl
answered-no wish.Report h = refl
answered-no wish.Abort h = refl
answered-no wish.Failed h = refl
answered-no wish.Over h = refl

answered-kept : (is_yes : Bool) (w : Wish) → has_computed w ≡ true → has_computed (answered is_yes w) ≡ true
answered-kept true w h = answered-yes w h
answered-kept false w h = answered-no w h

sent-kept : (maps : ℕ) (blocks : List (List ℕ)) (w : Wish) → has_computed w ≡ true → has_computed (wish_sent maps blocks w) ≡ true
unfolding has_computed
sent-kept maps blocks (wish.Where m) h = absurd (cc)
sent-kept maps blocks (wish.Fetch b n i) h = absurd (cc)
sent-kept maps blocks (wish.Lost b) h = absurd (cc)
sent-kept maps blocks wish.Compute h = absurd (cc)
sent-kept maps blocks wish.Mkdirs h = refl
sent-kept maps blocks wish.Create h = refl
sent-kept maps blocks wish.Write h = refl
sent-kept maps blocks wish.Close h = refl
sent-kept maps blocks wish.Needs h = refl
sent-kept maps blocks wish.Pending h = refl
sent-kept maps blocks wish.Poll h = refl
sent-kept maps blocks wish.Look h = refl
sent-kept maps blocks wish.Clear h = refl
sent-kept maps blocks wish.Rename h = refl
sent-kept maps blocks wish.Report h = refl
sent-kept maps blocks wish.Abort h = refl
sent-kept maps blocks wish.Failed h = refl
sent-kept maps blocks wish.Over h = refl

or-abort-kept : (b : Bool) (w : Wish) → has_computed w ≡ true → has_computed (or_abort b w) ≡ true
unfolding has_computed
or-abort-kept true w h = h
or-abort-kept false w h = refl

called-kept : (w : Wish) (r : Reply) → has_computed w ≡ true → has_computed (wish_called w r) ≡ true
unfolding has_computed wish_called
called-kept (wish.Where m) r h = absurd (cc)
called-kept (wish.Fetch b n i) r h = absurd (cc)
called-kept (wish.Lost b) r h = absurd (cc)
called-kept wish.Compute r h = absurd (cc)
called-kept wish.Mkdirs r h = or-abort-kept (is_fine r) wish.Create refl
called-kept wish.Create r h = or-abort-kept (is_fine r) wish.Write refl
called-kept wish.Write r h = or-abort-kept (is_fine r) wish.Close refl
called-kept wish.Close r h = or-abort-kept (is_fine r) wish.Needs refl
called-kept wish.Needs r h = or-abort-kept (is_found r) wish.Pending refl
called-kept wish.Pending r h = refl
called-kept wish.Poll r h = refl
called-kept wish.Look r h = or-abort-kept (is_found r) wish.Clear refl
called-kept wish.Clear r h = or-abort-kept (is_cleared r) wish.Rename refl
called-kept wish.Rename r h = or-abort-kept (is_fine r) wish.Report refl
called-kept wish.Report r h = refl
called-kept wish.Abort r h = refl
called-kept wish.Failed r h = refl
called-kept wish.Over r h = refl

same : (s : Seen) → has_computed s.wish ≡ true → Kept s s
same s h = record { computed = h; result = refl; pieces = refl }

-- what is not waited for does nothing
not-taken : (s t : Seen) (b : Bool) → b ≡ false → has_computed s.wish ≡ true → Kept s (cond b t s)
not-taken s t true e h = absurd (cc)
not-taken s t false e h = same s h

with-wish : (s : Seen) (w : Wish) → has_computed w ≡ true → Kept s (with_wish s w)
with-wish s w h = record { computed = h; result = refl; pieces = refl }

perhaps : (s : Seen) (w : Wish) (b : Bool) → has_computed w ≡ true → has_computed s.wish ≡ true → Kept s (cond b (with_wish s w) s)
perhaps s w true h k = with-wish s w h
perhaps s w false h k = same s k

first-false : (b c : Bool) → b ≡ false → (b && c) ≡ false
first-false true c h = absurd (cc)
first-false false c h = refl

over : has_computed wish.Over ≡ true
unfolding has_computed
over = refl

next-kept : (maps : ℕ) (x : Attempt) (s : Seen) (step : Step) → has_computed s.wish ≡ true → Kept s (next_seen maps x s step)
unfolding next_seen after_packet
next-kept maps x s (Hears (packet.MapReady map a n i)) h = not-taken s (with_wish s (wish.Fetch a n i)) (asks_where s.wish map) (asks-not s.wish map h) h
next-kept maps x s (Hears (packet.Piece a r f total bytes)) h = not-taken s (with_piece maps s total bytes) (is_awaited x s a r f) (first-false (fetches s.wish a) _ (fetches-not s.wish a h)) h
next-kept maps x s (Hears (packet.FetchLost c a)) h =
    not-taken s (record { wish = wish.Lost a; pieces = record { got = []; blocks = s.pieces.blocks }; result = s.result }) (fetches s.wish a) (fetches-not s.wish a h) h
next-kept maps x s (Hears (packet.Answer a is_yes)) h = perhaps s (answered is_yes s.wish) (same_attempt x a) (answered-kept is_yes s.wish h) h
next-kept maps x s (Hears (packet.DoneAck a)) h = perhaps s wish.Over (is_reporting s.wish && same_attempt x a) over h
next-kept maps x s (Hears (packet.Launch c a i)) h = same s h
next-kept maps x s (Hears (packet.Kill c)) h = same s h
next-kept maps x s (Hears (packet.Fetch c a r i f)) h = same s h
next-kept maps x s (Hears (packet.Won t a)) h = same s h
next-kept maps x s (Hears (packet.Outcome b)) h = same s h
next-kept maps x s (Hears (packet.Pending a)) h = same s h
next-kept maps x s (Hears (packet.Poll a)) h = same s h
next-kept maps x s (Hears (packet.Done a n)) h = same s h
next-kept maps x s (Hears (packet.Failed a)) h = same s h
next-kept maps x s (Hears (packet.Ended c)) h = same s h
next-kept maps x s (Hears (packet.NodeUp n i)) h = same s h
next-kept maps x s (Hears (packet.Where c m)) h = same s h
next-kept maps x s (Sends p) h = with-wish s (wish_sent maps s.pieces.blocks s.wish) (sent-kept maps s.pieces.blocks s.wish h)
next-kept maps x s (Computes bytes) h = not-taken s (with_result x.task.kind s bytes) (is_computing s.wish) (computes-not s.wish h) h
next-kept maps x s (Calls op r) h = with-wish s (wish_called s.wish r) (called-kept s.wish r h)

then : (a b c : Seen) → Kept a b → Kept b c → Kept a c
then a b c k l = record { computed = l.computed; result = l.result ∙ k.result; pieces = l.pieces ∙ k.pieces }

-- from readings on that have the bytes, whatever comes
stay : (maps : ℕ) (x : Attempt) (h more : List Step) → has_computed (seen maps x h).wish ≡ true → Kept (seen maps x h) (seen maps x (more ++ h))
unfolding seen
stay maps x h [] e = same (seen maps x h) e
stay maps x h (step ∷ more) e =
    let k = stay maps x h more e in
    then (seen maps x h) (seen maps x (more ++ h)) (next_seen maps x (seen maps x (more ++ h)) step) k (next-kept maps x (seen maps x (more ++ h)) step k.computed)

handed : (maps : ℕ) (x : Attempt) (s : Seen) (bytes : List ℕ) (k : TaskKind) (b : Bool) → k ≡ Reduce → b ≡ true → Kept (record s { result = bytes }) (cond b (with_result k s bytes) s)
unfolding has_computed
handed maps x s bytes Map b e t = absurd (cc)
handed maps x s bytes Reduce true e t = record { computed = refl; result = refl; pieces = refl }
handed maps x s bytes Reduce false e t = absurd (cc)

handed-in : (maps : ℕ) (x : Attempt) (h more : List Step) (bytes : List ℕ) → x.task.kind ≡ Reduce → is_computing (seen maps x h).wish ≡ true
    → Kept (record (seen maps x h) { result = bytes }) (seen maps x (more ++ Computes bytes ∷ h))
unfolding seen next_seen
handed-in maps x h more bytes e t =
    let s = seen maps x h in
    let k : Kept (record s { result = bytes }) (seen maps x (Computes bytes ∷ h)) = handed maps x s bytes x.task.kind (is_computing s.wish) e t in
    then (record s { result = bytes }) (seen maps x (Computes bytes ∷ h)) (seen maps x (more ++ Computes bytes ∷ h)) k (stay maps x (Computes bytes ∷ h) more k.computed)

pub bytes-stay : BytesStay
bytes-stay = record { stay = stay; handed_in = handed-in }
