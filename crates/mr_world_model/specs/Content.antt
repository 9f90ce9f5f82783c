-- The namespace's content, its calls and its faults: each is that of mr_names, which says what of them is Hadoop's and what our own profile.
use Rattle.std.specs.Prelude.{List, Option, Some, None}
use Rattle.std.specs.Option.{option_map}
use Rattle.std.specs.FinMap as finite
use Rattle.mr_paths.specs.Path.{strip}
use Rattle.mr_names_tree.specs.declared.node.Node.{Node}
use Rattle.mr_names_tree.specs.declared.node.Entry as entry
use Rattle.mr_names_tree.specs.Node.{kind_of}
use Rattle.mr_names_tree.specs.Content as content
use Rattle.mr_names_tree.specs.Held as held
use Rattle.mr_names_tree.specs.Listing as listing
use Rattle.mr_names.specs.Calls as calls
use Rattle.mr_world_model.specs.Ids.{Attempt, Path}
pub use Rattle.mr_names.specs.declared.fault.NameFault.{NameFault}
pub use Rattle.mr_names.specs.declared.fault.NameFault.TheVariants.{Superseded, Barred, Missing, Exists, NotDir, NotFile, Closed, NoParent, IntoItself, Full, NoMemory}
pub use Rattle.mr_names.specs.declared.op.Op.{Op}
pub use Rattle.mr_names.specs.declared.op.Op.TheVariants.{Mkdirs as MkDirs, Create, Append, Close, Delete, Rename, List as ListDir, Exists as Exist, Read, Bar}
pub use Rattle.mr_names_tree.specs.declared.node.Node.TheVariants.{Dir, File}
pub use Rattle.mr_names_tree.specs.declared.node.Kind.{Kind}
pub use Rattle.mr_names_tree.specs.Held.{is_dir, is_file, is_closed, bytes_of}
pub use Rattle.mr_names_tree.specs.Content.{Content}

abbrev pub Entry : Type 0
Entry = Node

-- a line of a listing
abbrev pub Listed : Type 0
Listed = entry.Entry

abbrev pub entry_at : Content → Path → Option Entry
entry_at c p = held.node_at c p

-- the rest of a path beneath another, if it is that path or beneath it
abbrev pub beneath : Path → Path → Option Path
beneath p q = strip p q

abbrev pub without : Content → Path → Content
without c p = content.without p c

abbrev pub put : Content → Path → Entry → Content
put c p e = finite.insert c p e

abbrev pub moved : Content → Path → Path → Content
moved c p q = content.renamed p q c

-- with a directory at a path and at each of its parents that is missing
abbrev pub made : Content → Path → Content
made c p = calls.effect c (MkDirs p)

-- the attempt that a call bars
abbrev pub bar_of : Op → Option Attempt
bar_of (Bar a) = Some a
bar_of _ = None

-- the first refusal of a call's own
unfoldable pub refusal : Content → Op → Option NameFault
refusal c o = calls.refusal c o

-- what a call that is not refused leaves
unfoldable pub left : Content → Op → Content
left c o = calls.effect c o

-- what is directly beneath a path, each name once, by its bytes
unfoldable pub children : Content → Path → List Listed
children c p = listing.children c p

abbrev pub kind : Entry → Kind
kind e = kind_of e

abbrev pub option_kind : Option Entry → Option Kind
option_kind o = option_map kind_of o
