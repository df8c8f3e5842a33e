-- Which tasks may begin.
use Rattle.std.specs.Prelude.{◌≡◌, ℕ, false, ◌&&◌, if◌then◌else◌, List, [], ◌∷◌, Option, Some, None, is_none}
use Rattle.sy_access.specs.declared.access.Need.{Need}
use Rattle.sy_onecopy.specs.declared.Entry.{Entry}
use Rattle.sy_settling.specs.Orderly.{IsFreeAt}
use Rattle.sy_coreboard.specs.Core.{Core, is_used}

abbrev pub missing_root_from : Core → Entry → List Need → Option ℕ
missing_root_from c e [] = None
missing_root_from c e (n ∷ ns) = if is_used c.board e n.buffer && is_none (c.copies e.place n.buffer) then Some n.buffer else missing_root_from c e ns

-- the first root that the entry needs and that isn't current at its place
unfoldable pub missing_root : Core → Entry → Option ℕ
missing_root c e = missing_root_from c e e.needs

-- no task is out
pub record IsQuiet (c : Core) : Type 0 where
  pub out : (k : ℕ) → c.out k ≡ None
  pub moving : (p r : ℕ) → c.moving p r ≡ None

-- every entry that may take effect and isn't out wants a copy that is out
abbrev pub NothingMayBegin : Core → Type 0
NothingMayBegin c = (k : ℕ) (e : Entry) → IsFreeAt c.board.entries k e → c.out k ≡ None → (r : ℕ) × (missing_root c e ≡ Some r) × (is_none (c.moving e.place r) ≡ false)
