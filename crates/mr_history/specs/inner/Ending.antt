-- What stands in a record's line behind the text of its attempt, and the quote that ends that: the word for the parts of the reader.
use Rattle.std.specs.Prelude.{◌≡◌, ℕ, List, ◌++◌, codes, decimal, Some, None}
use Rattle.mr_ids.specs.Attempt.{Attempt}
use Rattle.mr_history.specs.declared.record.Record.{Record}
use Rattle.mr_history.specs.declared.record.Record.TheVariants.{AttemptStarted, MapSucceeded, ReduceSucceeded, AttemptFailed, JobUnsuccessful}

-- the bytes are what stands so in the line of a record of this attempt
abbrev pub Ends : Attempt → List ℕ → Record → Type 0
Ends a bytes (AttemptStarted b node) = (b ≡ a) × (bytes ≡ codes ",\"event\":\"started\",\"node\":" ++ (decimal node ++ codes "}"))
Ends a bytes (MapSucceeded b node incarnation) = (b ≡ a) × (bytes ≡ codes ",\"event\":\"map\",\"incarnation\":" ++ (decimal incarnation ++ (codes ",\"node\":" ++ (decimal node ++ codes "}"))))
Ends a bytes (ReduceSucceeded b None) = (b ≡ a) × (bytes ≡ codes ",\"event\":\"reduce\"}")
Ends a bytes (ReduceSucceeded b (Some n)) = (b ≡ a) × (bytes ≡ codes ",\"bytes\":" ++ (decimal n ++ codes ",\"event\":\"reduce\"}"))
Ends a bytes (AttemptFailed b) = (b ≡ a) × (bytes ≡ codes ",\"event\":\"failed\"}")
Ends a bytes JobUnsuccessful = ⊥
