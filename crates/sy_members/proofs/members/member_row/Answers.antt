use Rattle.sy_members.proofs.members.member_row.Goals as goal

pub returns-in-Buffer : goal.returns-in-Buffer
returns-in-Buffer c = rw c.in-Buffer.is (c.extent_row.ensures.buffer c.in-Buffer.field-0)

pub returns-in-Accessor : goal.returns-in-Accessor
returns-in-Accessor c = rw c.in-Accessor.is (c.extent_row-in-Accessor.ensures.accessor c.in-Accessor.field-0 c.in-Accessor.field-2)

pub returns-in-HostAccessor : goal.returns-in-HostAccessor
returns-in-HostAccessor c = rw c.in-HostAccessor.is (c.extent_row-in-HostAccessor.ensures.host c.in-HostAccessor.field-0 c.in-HostAccessor.field-2)

pub returns-in-LocalAccessor : goal.returns-in-LocalAccessor
returns-in-LocalAccessor c = rw c.in-LocalAccessor.is (c.extent_row-in-LocalAccessor.ensures.local c.in-LocalAccessor.field-0)

pub returns-in-Reducer : goal.returns-in-Reducer
returns-in-Reducer c = rw c.in-Reducer.is (c.reducer_row.ensures c.in-Reducer.field-0 c.in-Reducer.field-1)
