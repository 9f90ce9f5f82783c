-- What two machines hold, in the three parts that are compared one after the other.
use Rattle.std.specs.Prelude.{◌≡◌, ℕ}
use Rattle.mr_master_tables.specs.Nodes.{known_in}
use Rattle.mr_master_state.specs.State.{Master}

-- what they are at, with the launches and the tasks
abbrev pub SameRunning : Master → Master → Type 0
SameRunning m n =
    (m.work ≡ n.work)
    × ((m.launches.entries ≡ n.launches.entries) × (m.launches.killed ≡ n.launches.killed))
    × (m.tasks ≡ n.tasks)

-- what is to be written down and barred
abbrev pub SameWriting : Master → Master → Type 0
SameWriting m n =
    ((m.writing.due ≡ n.writing.due) × (m.writing.tail ≡ n.writing.tail))
    × (m.bars.due ≡ n.bars.due)

-- what is known of nodes and of earlier masters
abbrev pub SameKnown : Master → Master → Type 0
SameKnown m n = ((k : ℕ) → known_in m.nodes k ≡ known_in n.nodes k) × (m.earlier ≡ n.earlier)
