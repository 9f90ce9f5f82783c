use Rattle.mr_names_tree.proofs.ListingLaws as laws
use Rattle.mr_names.proofs.laws.listings.Goals as goal

pub returns : goal.returns
returns c = record { children = laws.lists_children; order = laws.lists_in_order }
