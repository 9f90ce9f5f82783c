-- The limits of a world: whether an event can be taken without passing one (our own profile).
use Rattle.std.specs.Prelude.{ℕ, zero, suc, ◌+◌, ◌-◌, ◌^◌, Bool, true, false, ◌&&◌, ◌||◌, not, nat_lt, nat_le, List, [], ◌∷◌, Option, Some, None, if◌then◌else◌, length, sum_by, slice_get}
use Rattle.std.specs.FinSet as set
use Rattle.mr_ids.specs.declared.id.TheConstants.{MAX_APP_ATTEMPTS}
use Rattle.mr_names.specs.Attempts.{attempt_cmp}
use Rattle.mr_names.specs.Barred.{Barred}
use Rattle.mr_names.specs.Calls.{passes_limit}
use Rattle.mr_history.specs.Line.{head, width, as_written}
use Rattle.mr_history.specs.declared.segment.TheConstants.{MAX_SEGMENT_LEN}
use Rattle.mr_mapside.specs.declared.TheConstants.{MAX_OUTPUT_LEN}
use Rattle.mr_packet.specs.declared.bag.TheConstants.{MAX_PACKETS}
use Rattle.mr_packet.specs.declared.packet.Address.{Address}
use Rattle.mr_packet.specs.declared.packet.Address.TheVariants.{Master}
use Rattle.mr_packet.specs.declared.packet.Envelope.{Envelope}
use Rattle.mr_world_model.specs.Ids.{is_reduce}
use Rattle.mr_world_model.specs.Content.{refusal}
use Rattle.mr_world_model.specs.Records.{Record, Segment}
use Rattle.mr_world_model.specs.Packets.{Config, Store, Names, Append_record, Flush, Read_history}
use Rattle.mr_world_model.specs.Pasts.{Place, incarnation_of}
use Rattle.mr_world_model.specs.Duties.{Master_step, Came, Launches, Expires, Asks}
use Rattle.mr_world_model.specs.World.{World, Event, Start, Duty, LaunchOn, Deliver, Compute, NodeRestart, Expire, Made, call_of, is_applied}
use Rattle.mr_world_model.specs.Sending.{sent}
use Rattle.mr_world_model.specs.Claims.{Limits}
-- a call is refused for want of room
pub use Rattle.mr_world_stores.specs.Calls.{is_full}
use Rattle.mr_world_state.specs.declared.limits.TheConstants.{MAX_CONTAINERS}

-- ---- the containers of a world: all launches of all masters

abbrev pub launches_in : List Master_step → ℕ
launches_in [] = 0
launches_in (Launches l ∷ past) = suc (launches_in past)
launches_in (Came p ∷ past) = launches_in past
launches_in (Expires n ∷ past) = launches_in past
launches_in (Asks call r ∷ past) = launches_in past

-- those of the first n generations
unfoldable pub launches_of : (ℕ → List Master_step) → ℕ → ℕ
launches_of pasts zero = 0
launches_of pasts (suc n) = launches_of pasts n + launches_in (pasts (suc n))

abbrev pub launch_count : World → ℕ
launch_count w = launches_of w.master_past MAX_APP_ATTEMPTS

-- ---- a store call that is made finds room

-- the attempts that are barred, each once
abbrev pub barred_of : World → Barred
barred_of w = set.from_list {R = attempt_cmp} w.barred

-- the bytes of a segment with this record, the version line among them
abbrev pub length_with : Segment → Record → ℕ
length_with s r = length (head s.version) + sum_by width s.stable + sum_by width s.tail + width (as_written s.version r)

abbrev pub fits_store : World → ℕ → Store → Bool
fits_store w k (Names op) = not (passes_limit (barred_of w) op || is_full (refusal w.content op))
fits_store w k (Append_record r) = (w.history k).is_sealed || nat_le (length_with (w.history k) r) MAX_SEGMENT_LEN
fits_store w k Flush = true
fits_store w k Read_history = true

-- a call that is not made is never too much
abbrev pub fits_call : World → Option Made → Bool
fits_call w None = true
fits_call w (Some m) = if is_applied w m.app m.fault then fits_store w m.app m.call else true

-- ---- an event's own limit

-- a map's bytes lie on a shelf; a reduce's have a length that a packet can tell
abbrev pub fits_bytes : Option Place → ℕ → Bool
fits_bytes None n = nat_lt n (2 ^ 32)
fits_bytes (Some p) n = if is_reduce p.attempt then nat_lt n (2 ^ 32) else nat_le n MAX_OUTPUT_LEN

-- generations, launches, bytes that are handed in, and incarnations of a node (which no list of 1,000,000 events can
-- use up)
abbrev pub fits_own : World → Event → Bool
fits_own w (Start k kept) = nat_le k MAX_APP_ATTEMPTS
fits_own w (LaunchOn k t n) = nat_lt (launch_count w) MAX_CONTAINERS
fits_own w (Compute c bytes) = fits_bytes (w.place c) (length bytes)
fits_own w (NodeRestart n) = nat_lt (incarnation_of (w.node_past n)) (2 ^ 32 - 1)
fits_own w _ = true

-- the packets of an event find room in the bag
abbrev pub fits_bag : Config → World → Event → Bool
fits_bag cfg w e = nat_le (length w.bag + length (sent cfg w e)) MAX_PACKETS

-- ---- which limits are found without memory

abbrev pub is_master : Address → Bool
is_master (Master k) = true
is_master _ = false

abbrev pub goes_to_master : Option Envelope → Bool
goes_to_master None = false
goes_to_master (Some e) = is_master e.to

-- a master takes a step: it takes memory to find out what it sends then
abbrev pub is_of_master : World → Event → Bool
is_of_master w (Deliver i) = goes_to_master (slice_get w.bag i)
is_of_master w (Duty k f) = true
is_of_master w (Expire k n) = true
is_of_master w _ = false

-- The limits that are found without memory: an event's own, and room in the bag, but for what a master sends. (To
-- find out whether a store call finds its store full takes the call's paths.)
abbrev pub fits_counted : Config → World → Event → Bool
fits_counted cfg w e = fits_own w e && (is_of_master w e || fits_bag cfg w e)

-- whether an event passes no limit
unfoldable pub within : Config → Limits
within cfg w e = fits_own w e && (fits_call w (call_of cfg w e) && fits_bag cfg w e)
