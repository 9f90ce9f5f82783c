-- The line of an event, put together.
use Rattle.std.proofs.Common.{◌≡◌, ◌++◌, ◌∷◌, [], ℕ, List, drop, length, sym, ap, ◌∙◌, append_assoc}
use Rattle.std.proofs.Math.Seq.{drop-append_seam}
use Rattle.mr_packet.specs.declared.packet.Envelope.{Envelope}
use Rattle.mr_world_events.specs.declared.event.Event.{Event}
use Rattle.mr_play.specs.mr_world.specs.Journal.{Journal}
use Rattle.mr_trace.specs.declared.makers.Maker.{Maker}
use Rattle.mr_trace.specs.Happened.{Happened, happened, happened_behind}
use Rattle.mr_trace.specs.Trace.{line_text, lines_text, packets_text}

-- the packets behind those that there were are those that were added
pub line_is : (start text mid behind end : List ℕ) (bag more after : List Envelope) (first : ℕ) → first ≡ length bag → after ≡ bag ++ more
    → mid ≡ start ++ text → behind ≡ mid ++ packets_text first (drop first after) → end ≡ behind ++ 10 ∷ []
    → end ≡ start ++ (text ++ (packets_text (length bag) more ++ 10 ∷ []))
line_is start text mid behind end bag more after first is added begun told ended =
    let left : drop first after ≡ more = ap (λ n. drop n after) is ∙ ap (drop (length bag)) added ∙ drop-append_seam bag more in
    let put = packets_text (length bag) more in
    ended
    ∙ ap (λ l. l ++ 10 ∷ []) (told ∙ ap (λ n. mid ++ packets_text n (drop first after)) is ∙ ap (λ es. mid ++ packets_text (length bag) es) left ∙ ap (λ l. l ++ put) begun)
    ∙ append_assoc (start ++ text) put (10 ∷ [])
    ∙ append_assoc start text (put ++ 10 ∷ [])

-- the line of an event, and those of the events behind it; who made it is told by either of two that agree on it
pub one_more : (who left : Journal → Maker) (j : Journal) (e : Event) (es : List Event) (out new whole : List ℕ) → left j ≡ who j → new ≡ out ++ line_text (happened left j e)
    → out ++ lines_text (happened_behind who j.config j.events (e ∷ es)) ≡ whole → new ++ lines_text (happened_behind who j.config (j.events ++ e ∷ []) es) ≡ whole
one_more who left j e es out new whole same put all =
    ap (λ l. l ++ lines_text (happened_behind who j.config (j.events ++ e ∷ []) es)) (put ∙ ap (λ m. out ++ line_text (by m)) same)
    ∙ append_assoc out (line_text (happened who j e)) (lines_text (happened_behind who j.config (j.events ++ e ∷ []) es))
    ∙ all
  where
    by : Maker → Happened
    by m = record (happened who j e) { maker = m }
