-- Which fault is answered, and what the room in the bag says of the limits.
use Rattle.std.proofs.Common.{◌≡◌, ℕ, ◌<◌, ◌≤◌, ◌+◌, refl, sym, ◌∙◌, subst, Bool, true, false, Option, Some, None, Result, Ok, Err, OnOk, IfErr, IsErrAnd, inl, inr, length}
use Rattle.std.proofs.lemmas.Bool.{le-leb, lt-leb}
use Rattle.std.proofs.lemmas.Result.{err_from_is_err_and}
use Rattle.mr_packet.specs.declared.bag.TheConstants.{MAX_PACKETS}
use Rattle.mr_world_events.specs.declared.why.Why.{Why}
use Rattle.mr_world_model.specs.Packets.{Config}
use Rattle.mr_world_model.specs.World.{World, Event}
use Rattle.mr_world_model.specs.Effect.{not_now}
use Rattle.mr_world_model.specs.Sending.{sent}
use Rattle.mr_world_state.specs.declared.fault.WorldFault.{WorldFault}
use Rattle.mr_world_state.specs.declared.fault.WorldFault.TheVariants as fault
use Rattle.mr_world_state.specs.declared.parts.Parts.{Parts}
use Rattle.mr_world_state.specs.Limits.{within, fits_counted, fits_bag}
use Rattle.mr_world_state.specs.Standing.{Standing, IsTaken, Refuses, RefusesEvent, Foresees, Tries}

pub refuses-now : {o : Option Why} {why : Why} (fits counted : Bool) → o ≡ Some why → Refuses o fits counted (fault.NotNow why)
refuses-now {o} {why} fits counted e = subst (λ z. Refuses z fits counted (fault.NotNow why)) (sym e) refl

too-much : (counted : Bool) → Refuses None false counted fault.Full
too-much false = refl
too-much true = inl refl

pub refuses-full : {o : Option Why} {fits : Bool} (counted : Bool) → o ≡ None → fits ≡ false → Refuses o fits counted fault.Full
refuses-full {o} {fits} counted e f = subst (λ z. Refuses z fits counted fault.Full) (sym e) (subst (λ b. Refuses None b counted fault.Full) (sym f) (too-much counted))

no-memory : (fits : Bool) → Refuses None fits true fault.NoMemory
no-memory true = refl
no-memory false = inr refl

-- where no limit is passed that is found without memory
pub refuses-memory : {o : Option Why} {counted : Bool} (fits : Bool) → o ≡ None → counted ≡ true → Refuses o fits counted fault.NoMemory
refuses-memory {o} {counted} fits e l = subst (λ z. Refuses z fits counted fault.NoMemory) (sym e) (subst (λ b. Refuses None fits b fault.NoMemory) (sym l) (no-memory fits))

-- an event that could be taken
pub lacks-memory : {cfg : Config} {w : World} {e : Event} → IsTaken cfg w e → RefusesEvent cfg w e fault.NoMemory
lacks-memory {cfg} {w} {e} t = subst (λ z. Refuses z (within cfg w e) (fits_counted cfg w e) fault.NoMemory) (sym t.now) (subst (λ b. Refuses None b (fits_counted cfg w e) fault.NoMemory) (sym t.fits) refl)

-- so many packets find room in the bag, or do not
pub bag-fits : (p : Parts) (w : World) (e : Event) (n : ℕ) → Standing p w → length (sent p.config w e) ≡ n → length p.bag.packets + n ≤ MAX_PACKETS → fits_bag p.config w e ≡ true
bag-fits p w e n s is l = le-leb _ _ (subst (λ m. length w.bag + m ≤ MAX_PACKETS) (sym is) (subst (λ es. length es + n ≤ MAX_PACKETS) s.bag l))

pub bag-full : (p : Parts) (w : World) (e : Event) (n : ℕ) → Standing p w → length (sent p.config w e) ≡ n → MAX_PACKETS < length p.bag.packets + n → fits_bag p.config w e ≡ false
bag-full p w e n s is l = lt-leb _ _ (subst (λ m. MAX_PACKETS < length w.bag + m) (sym is) (subst (λ es. MAX_PACKETS < length es + n) s.bag l))

-- an event that is permitted, and has no other limit than the room for its n packets
pub record NeedsRoom (p : Parts) (w : World) (e : Event) (n : ℕ) : Type 0 where
  pub now : not_now p.config w e ≡ None
  pub limit : within p.config w e ≡ fits_bag p.config w e
  pub count : length (sent p.config w e) ≡ n

-- so it is foreseen by the room
pub foresees-room : (p : Parts) (e : Event) (n : ℕ) → ((w : World) → Standing p w → NeedsRoom p w e n) → (r : Result (Unit {0}) WorldFault)
    → OnOk r (length p.bag.packets + n ≤ MAX_PACKETS) → IfErr r (λ f. (f ≡ fault.Full) × (MAX_PACKETS < length p.bag.packets + n)) → Foresees p e r
foresees-room p e n needs (Ok u) room full = λ w s. let i = needs w s in record { now = i.now; fits = i.limit ∙ bag-fits p w e n s i.count room }
foresees-room p e n needs (Err f) room full = λ w s. let i = needs w s in
    subst (RefusesEvent p.config w e) (sym full.0) (refuses-full _ i.now (i.limit ∙ bag-full p w e n s i.count full.1))

pub taken-by : {p : Parts} {w : World} {e : Event} {n : ℕ} → Standing p w → NeedsRoom p w e n → length p.bag.packets + n ≤ MAX_PACKETS → IsTaken p.config w e
taken-by {p} {w} {e} {n} s i room = record { now = i.now; fits = i.limit ∙ bag-fits p w e n s i.count room }

pub full-by : {p : Parts} {w : World} {e : Event} {n : ℕ} → Standing p w → NeedsRoom p w e n → MAX_PACKETS < length p.bag.packets + n → RefusesEvent p.config w e fault.Full
full-by {p} {w} {e} {n} s i room = refuses-full _ i.now (i.limit ∙ bag-full p w e n s i.count room)

-- what the exit of a `?` answers where memory was refused
pub memory-foreseen : {A : Type 0} (p : Parts) (e : Event) (r : Result A WorldFault) → ((w : World) → Standing p w → not_now p.config w e ≡ None) → ((w : World) → Standing p w → fits_counted p.config w e ≡ true)
    → IsErrAnd r (λ f. f ≡ fault.NoMemory) → Foresees p e r
memory-foreseen {A} p e r now counted g = let q = err_from_is_err_and r g in
    subst (λ (z : Result A WorldFault). Foresees {A = A} p e z) (sym q.1) (subst (λ f. Foresees {A = A} p e (Err f)) (sym q.2) (λ w s. refuses-memory _ (now w s) (counted w s)))

pub refused-tried : {A : Type 0} (p q : Parts) (e : Event) (r : Result A WorldFault) (g : WorldFault) → ((w : World) → Standing p w → RefusesEvent p.config w e g) → ((w : World) → Standing p w → Standing q w) → IsErrAnd r (λ f. f ≡ g) → Tries p e r q
refused-tried {A} p q e r g why same is = let z = err_from_is_err_and r is in
    subst (λ (y : Result A WorldFault). Tries {A = A} p e y q) (sym z.1) (subst (λ f. Tries {A = A} p e (Err f) q) (sym z.2) (λ w s. (why w s, same w s)))

pub memory-tried : {A : Type 0} (p q : Parts) (e : Event) (r : Result A WorldFault) → ((w : World) → Standing p w → IsTaken p.config w e) → ((w : World) → Standing p w → Standing q w) → IsErrAnd r (λ f. f ≡ fault.NoMemory) → Tries p e r q
memory-tried {A} p q e r taken same g = let z = err_from_is_err_and r g in
    subst (λ (y : Result A WorldFault). Tries {A = A} p e y q) (sym z.1) (subst (λ f. Tries {A = A} p e (Err f) q) (sym z.2) (λ w s. (lacks-memory (taken w s), same w s)))

-- what the exit of a `?` answers where the bag has no room for so many
pub full-foreseen : {A : Type 0} (p : Parts) (e : Event) (n : ℕ) (r : Result A WorldFault) → ((w : World) → Standing p w → NeedsRoom p w e n) → MAX_PACKETS < length p.bag.packets + n → IsErrAnd r (λ f. f ≡ fault.Full) → Foresees p e r
full-foreseen {A} p e n r needs room g = let q = err_from_is_err_and r g in
    subst (λ (z : Result A WorldFault). Foresees {A = A} p e z) (sym q.1) (subst (λ f. Foresees {A = A} p e (Err f)) (sym q.2) (λ w s. full-by s (needs w s) room))
