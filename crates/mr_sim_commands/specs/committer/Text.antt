-- What `committer` prints for a script: a reply to each command that has one, and then what the namespace holds (our own profile).
use Rattle.std.specs.Prelude.{◌≡◌, ℕ, List, [], ◌∷◌, ◌++◌, Result, Ok, Err, codes, decimal}
use Rattle.mr_names.specs.declared.fault.NameFault.{NameFault}
use Rattle.mr_names.specs.declared.fault.NameFault.TheVariants as names
use Rattle.mr_commit.specs.declared.fault.CommitFault.{CommitFault}
use Rattle.mr_commit.specs.declared.fault.CommitFault.TheVariants as commits
use Rattle.mr_script.specs.Lines.{lines_of}
use Rattle.mr_sim_commands.specs.declared.committer.command.ScriptCommand.{ScriptCommand}
use Rattle.mr_sim_commands.specs.declared.committer.scene.Scene.{Scene}
use Rattle.mr_sim_commands.specs.declared.committer.scene.Reply.{Reply}
use Rattle.mr_sim_commands.specs.declared.committer.scene.Reply.TheVariants.{Silent, Yes, No}
use Rattle.mr_sim_commands.specs.committer.Effect.{out, start, outcome}
use Rattle.mr_sim_commands.specs.committer.Listing.{listing}
use Rattle.mr_sim_commands.specs.committer.Script.{AreCommands}

-- the variant of a refusal
abbrev pub name_fault_text : NameFault → List ℕ
name_fault_text (names.Superseded fence) = codes "Superseded " ++ decimal fence
name_fault_text names.Barred = codes "Barred"
name_fault_text names.Missing = codes "Missing"
name_fault_text names.Exists = codes "Exists"
name_fault_text names.NotDir = codes "NotDir"
name_fault_text names.NotFile = codes "NotFile"
name_fault_text names.Closed = codes "Closed"
name_fault_text names.NoParent = codes "NoParent"
name_fault_text names.IntoItself = codes "IntoItself"
name_fault_text names.Full = codes "Full"
name_fault_text names.NoMemory = codes "NoMemory"

abbrev pub fault_text : CommitFault → List ℕ
fault_text (commits.Names f) = name_fault_text f
fault_text commits.OutputMissing = codes "OutputMissing"
fault_text commits.WrongLength = codes "WrongLength"
fault_text commits.DestinationExists = codes "DestinationExists"
fault_text commits.WrongAnswer = codes "WrongAnswer"
fault_text commits.Over = codes "Over"
fault_text commits.NoMemory = codes "NoMemory"

-- one line of what is printed
abbrev pub said : ℕ → List ℕ → List ℕ
said line text = decimal line ++ codes ": " ++ text ++ 10 ∷ []

-- what the command of a line prints
unfoldable pub reply_text : ℕ → Result Reply CommitFault → List ℕ
reply_text line (Ok Silent) = []
reply_text line (Ok Yes) = said line (codes "yes")
reply_text line (Ok No) = said line (codes "no")
reply_text line (Err f) = said line (fault_text f)

-- what commands with their lines print in turn, and where they lead
abbrev pub replies : List (List ℕ) → List (ℕ × ScriptCommand) → Scene → List ℕ
replies dest [] s = []
replies dest (c ∷ cs) s = reply_text c.0 (outcome dest c.1 s).0 ++ replies dest cs (outcome dest c.1 s).1

abbrev pub scene_after : List (List ℕ) → List (ℕ × ScriptCommand) → Scene → Scene
scene_after dest [] s = s
scene_after dest (c ∷ cs) s = scene_after dest cs (outcome dest c.1 s).1

-- the replies, and then what the namespace holds
abbrev pub committer_text : List (ℕ × ScriptCommand) → List ℕ
committer_text cs = replies out cs start ++ listing (scene_after out cs start).names.content

-- a script, and what its commands print
abbrev pub PrintsCommitter : List ℕ → List ℕ → Type 0
PrintsCommitter input text = (cs : List (ℕ × ScriptCommand)) × AreCommands 1 (lines_of input) cs × (text ≡ committer_text cs)
