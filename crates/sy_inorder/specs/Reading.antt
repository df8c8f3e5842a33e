-- Entries that only read.
use Rattle.std.specs.Prelude.{Bool, not, ◌||◌, List}
use Rattle.std.specs.List.{list_all}
use Rattle.sy_access.specs.declared.access.Need.{Need}
use Rattle.sy_access.specs.Needs.{writes}
use Rattle.sy_onecopy.specs.declared.Entry.{Entry}
use Rattle.sy_onecopy.specs.Before.{is_done, is_named, meet}
use Rattle.sy_needs.specs.Order.{both_on}

-- no need writes
unfoldable pub only_reads : List Need → Bool
only_reads needs = list_all (λ n. not (writes n.mode)) needs

-- the entry is done, or only reads
abbrev pub lets_read : Entry → Bool
lets_read e = is_done e.stage || only_reads e.needs

-- each of the entries is done, or only reads
unfoldable pub all_let_read : List Entry → Bool
all_let_read entries = list_all lets_read entries

-- each of the entries is done, or has no need that meets one of y
unfoldable pub all_keep_off : Entry → List Entry → Bool
all_keep_off y entries = list_all (λ x. is_done x.stage || not (meet x y)) entries

-- y names the entry, or both are nodes of one in-order queue
abbrev pub follows : Entry → Entry → Bool
follows y x = is_named x.work y.after || both_on x.in_order y.in_order

-- each of the entries is done, or y does not follow it
unfoldable pub follows_none : Entry → List Entry → Bool
follows_none y entries = list_all (λ x. is_done x.stage || not (follows y x)) entries
