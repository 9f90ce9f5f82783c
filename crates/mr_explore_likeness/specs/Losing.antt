-- The run of an input is like itself. A search that leaves out runs that are alike loses no end of careful ones, and no least script. Our own.
use Rattle.std.specs.Prelude.{◌≡◌, ℕ, Bool, true, false, List, []}
use Rattle.mr_explore_search.specs.Runs.{Found, Run}
use Rattle.mr_explore_search.specs.Laws.{In, IsOneBy}
use Rattle.mr_explore_alike.specs.Leaving.{Here, IsEnough, IsFound, IsTaken}
use Rattle.mr_explore_alike.specs.Least.{IsRun, IsSearch, NoneIsEarlier}
use Rattle.mr_explore_faults.specs.declared.fault.Fault.{Fault}
use Rattle.mr_explore.specs.Faults.{most_events}
use Rattle.mr_explore.specs.Runs.{Exploring, IsRunOf, explored}
use Rattle.mr_explore_likeness.specs.Careful.{careful, ends_careful}
use Rattle.mr_explore_likeness.specs.Runs.{before, ends, like, rest, void}

abbrev pub RunsAreLikeThemselves : Type 0
RunsAreLikeThemselves = (level : Bool) (input : List ℕ) (e : Exploring) → IsRunOf input e → like level e [] e []

-- a careful run is one of mr_explore's
abbrev pub CarefulRunsAreRuns : Type 0
CarefulRunsAreRuns = (most budget : ℕ) (first : Exploring) (k : ℕ) (s : Exploring) → IsOneBy careful most budget first (Run k s) → IsOneBy explored most budget first (Run k s)

-- Of mr_explore's runs of an input enough were made: each one that was left out is like a made one that is earlier. Then of all runs by at most `budget` faults of which no look-ahead
-- passes a limit, each one is found, or an earlier one that came to the same end.
abbrev pub NoCarefulEndIsLost : Type 0
NoCarefulEndIsLost = (input : List ℕ) (budget : ℕ) (made : List (Here Exploring Fault)) (found : List (Found Exploring)) (first : Exploring) → IsRunOf input first
    → IsEnough explored rest before void (like false) ends budget made found → IsTaken explored rest before void (like false) ends made 0 0 [] first
    → (k : ℕ) (s : Exploring) → IsOneBy careful most_events budget first (Run k s) → void s ≡ false → IsFound careful rest before void (like false) ends_careful found k s

-- So none of these runs is earlier than the least that is found with the same end.
abbrev pub NoCarefulRunIsEarlier : Type 0
NoCarefulRunIsEarlier = (input : List ℕ) (budget : ℕ) (made : List (Here Exploring Fault)) (found : List (Found Exploring)) (first : Exploring) → IsRunOf input first
    → IsEnough explored rest before void (like false) ends budget made found → IsTaken explored rest before void (like false) ends made 0 0 [] first
    → (k : ℕ) (s : Exploring) → NoneIsEarlier careful rest before void (like false) ends_careful (λ j u. In (Run j u) found) k s
    → NoneIsEarlier careful rest before void (like false) ends_careful (IsRun careful rest before void (like false) ends_careful most_events budget first) k s

-- Of two searches of mr_explore's runs of an input, which leave out runs that are like an earlier one and as near to each limit, the least that they find with one end have as many faults, and
-- one script. So that does not depend on which runs were left out.
abbrev pub SearchesFindOneScript : Type 0
SearchesFindOneScript = (input : List ℕ) (budget : ℕ) (first : Exploring) (made others : List (Here Exploring Fault)) (found told : List (Found Exploring)) → IsRunOf input first
    → IsSearch explored rest before void (like true) ends most_events budget first made found → IsSearch explored rest before void (like true) ends most_events budget first others told
    → (j k : ℕ) (u s : Exploring) → In (Run j u) found → In (Run k s) told → ends u s
    → NoneIsEarlier explored rest before void (like true) ends (λ i v. In (Run i v) found) j u → NoneIsEarlier explored rest before void (like true) ends (λ i v. In (Run i v) told) k s
    → (j ≡ k) × (u.played.events ≡ s.played.events)

-- Two of mr_explore's runs by at most `budget` faults that have one end, and to which none of these runs is earlier, have as many faults, and one script.
abbrev pub LeastRunsHaveOneScript : Type 0
LeastRunsHaveOneScript = (budget : ℕ) (first : Exploring) (j k : ℕ) (u s : Exploring)
    → IsRun explored rest before void (like true) ends most_events budget first j u → IsRun explored rest before void (like true) ends most_events budget first k s → ends u s
    → NoneIsEarlier explored rest before void (like true) ends (IsRun explored rest before void (like true) ends most_events budget first) j u
    → NoneIsEarlier explored rest before void (like true) ends (IsRun explored rest before void (like true) ends most_events budget first) k s
    → (j ≡ k) × (u.played.events ≡ s.played.events)
