-- The sorts of types that the library's rows ask for.
use Rattle.std.specs.Prelude.{Bool}
use Rattle.sy_typed.specs.declared.things.Thing.{Thing}
use Rattle.sy_fits.specs.declared.sorts.Sort.{Sort}
use Rattle.sy_fits.specs.declared.sorts.Sort.TheVariants as sort
use Rattle.sy_rules.specs.Calls.{is_group, is_function_object, is_identity}
use Rattle.sy_rules.specs.Members.{is_extent, is_reduction, is_written_accessor, is_read_accessor}
use Rattle.sy_rules.specs.Objects.{is_device, is_context, is_handler, is_buffer, is_in_order, is_tag, is_no_init, is_writing_tag, is_event}
use Rattle.sy_rules.specs.Seen.{is_integer}

abbrev pub is_of : Sort → Thing → Bool
is_of sort.Integer = is_integer
is_of sort.Device = is_device
is_of sort.Context = is_context
is_of sort.Handler = is_handler
is_of sort.Buffer = is_buffer
is_of sort.InOrder = is_in_order
is_of sort.Tag = is_tag
is_of sort.NoInit = is_no_init
is_of sort.WritingTag = is_writing_tag
is_of sort.Event = is_event
is_of sort.Extent = is_extent
is_of sort.Reduction = is_reduction
is_of sort.WrittenAccessor = is_written_accessor
is_of sort.ReadAccessor = is_read_accessor
is_of sort.Group = is_group
is_of sort.FunctionObject = is_function_object
is_of sort.Identity = is_identity
