-- The arguments that are looked for among all.
use Rattle.std.specs.Prelude.{Bool}
use Rattle.sy_typed.specs.declared.things.Thing.{Thing}
use Rattle.sy_meaning.specs.Lambdas.{is_identity_tag}
use Rattle.sy_meaning.specs.Making.{is_in_order, is_no_init}
use Rattle.sy_making.specs.declared.arguments.Tag.{Tag}
use Rattle.sy_making.specs.declared.arguments.Tag.TheVariants.{Identity, InOrder, NoInit}

abbrev pub is_tag : Tag → Thing → Bool
is_tag NoInit = is_no_init
is_tag InOrder = is_in_order
is_tag Identity = is_identity_tag
