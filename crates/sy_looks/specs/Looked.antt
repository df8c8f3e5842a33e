-- What a walk over a part of the tree gives: what the definition's look at that part knows, finds and leaves.
use Rattle.std.specs.Prelude.{◌≡◌, Result, Ok, Err}
use Rattle.sy_found.specs.Noted.{found_in}
use Rattle.sy_looks.specs.declared.walk.Walk.{Walk}
use Rattle.sy_rules.specs.Outcome.{Look}

-- after a look at a part: what is known of it, and how the walk goes on
abbrev pub looked : {T : Type 0} → Look T → Walk → T × Walk
looked a w = ((a w.names).what, record w { names = (a w.names).names; found = found_in w.place w.found (a w.names).found })

-- unless memory is wanting
abbrev pub Looked : {T Stop : Type 0} → Look T → Walk → Result T Stop → Walk → Type 0
Looked a old (Ok x) new = (x, new) ≡ looked a old
Looked a old (Err e) new = Unit
