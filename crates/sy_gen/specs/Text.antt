-- The text of a generated source.
use Rattle.std.specs.Prelude.{ℕ, zero, suc, ◌*◌, List, [], ◌++◌, codes}
use Rattle.sy_gen.specs.Groups.{group_after, line_of}

-- the lines before the functions
unfoldable pub includes : List ℕ
includes =
    codes "#include <sycl/sycl.hpp>\n"
    ++ codes "#include <iostream>\n"
    ++ codes "using namespace sycl;\n"

-- adds one buffer, backwards, to another
unfoldable pub add_function : List ℕ
add_function =
    codes "void add(queue& q, buffer<unsigned>& x, buffer<unsigned>& y, unsigned k) {\n"
    ++ codes "  q.submit([&](handler& h) {\n"
    ++ codes "    accessor s{y, h, read_only};\n"
    ++ codes "    accessor d{x, h, read_write};\n"
    ++ codes "    h.parallel_for(range<1>{64}, [=](id<1> i) { d[i] = d[i] + s[63 - i] + k; });\n"
    ++ codes "  });\n"
    ++ codes "}\n"

-- sets a buffer to thrice another
unfoldable pub mul_function : List ℕ
mul_function =
    codes "void mul(queue& q, buffer<unsigned>& x, buffer<unsigned>& y, unsigned k) {\n"
    ++ codes "  q.submit([&](handler& h) {\n"
    ++ codes "    accessor s{y, h, read_only};\n"
    ++ codes "    accessor d{x, h, write_only, no_init};\n"
    ++ codes "    h.parallel_for(range<1>{64}, [=](id<1> i) { d[i] = s[i] * 3u + k; });\n"
    ++ codes "  });\n"
    ++ codes "}\n"

-- sets a buffer to another with each work-group turned round
unfoldable pub flip_function : List ℕ
flip_function =
    codes "void flip(queue& q, buffer<unsigned>& x, buffer<unsigned>& y, unsigned k) {\n"
    ++ codes "  q.submit([&](handler& h) {\n"
    ++ codes "    accessor s{y, h, read_only};\n"
    ++ codes "    accessor d{x, h, write_only};\n"
    ++ codes "    local_accessor<unsigned> l{range<1>{8}, h};\n"
    ++ codes "    h.parallel_for(nd_range<1>{range<1>{64}, range<1>{8}}, [=](nd_item<1> it) {\n"
    ++ codes "      size_t g = it.get_global_id(0);\n"
    ++ codes "      size_t j = it.get_local_id(0);\n"
    ++ codes "      l[j] = s[g];\n"
    ++ codes "      group_barrier(it.get_group());\n"
    ++ codes "      d[g] = l[7 - j] + k;\n"
    ++ codes "    });\n"
    ++ codes "  });\n"
    ++ codes "}\n"

-- the sum of a buffer
unfoldable pub total_function : List ℕ
total_function =
    codes "unsigned total(buffer<unsigned>& b) {\n"
    ++ codes "  host_accessor a{b, read_only};\n"
    ++ codes "  unsigned t = 0;\n"
    ++ codes "  for (int i = 0; i < 64; ++i) t += a[i];\n"
    ++ codes "  return t;\n"
    ++ codes "}\n"

-- two contexts with a queue each, and four buffers
unfoldable pub main_opening : List ℕ
main_opening =
    codes "int main() {\n"
    ++ codes "  device d;\n"
    ++ codes "  auto s = d.create_sub_devices<info::partition_property::partition_equally>(4);\n"
    ++ codes "  context c0{s[0]};\n"
    ++ codes "  context c1{s[1]};\n"
    ++ codes "  queue q0{c0, s[0]};\n"
    ++ codes "  queue q1{c1, s[1]};\n"
    ++ codes "  buffer<unsigned> b0{range<1>{64}};\n"
    ++ codes "  buffer<unsigned> b1{range<1>{64}};\n"
    ++ codes "  buffer<unsigned> b2{range<1>{64}};\n"
    ++ codes "  buffer<unsigned> b3{range<1>{64}};\n"

-- prints the sums of the buffers
unfoldable pub closing : List ℕ
closing =
    codes "  std::cout << total(b0) << ' ' << total(b1) << ' ' << total(b2) << ' ' << total(b3) << std::endl;\n"
    ++ codes "}\n"

-- what stands before the groups
unfoldable pub opening : List ℕ
opening = includes ++ add_function ++ mul_function ++ flip_function ++ total_function ++ main_opening

-- the lines of the first groups, so many
abbrev pub lines_of : ℕ → ℕ → List ℕ
lines_of seed zero = []
lines_of seed (suc n) = lines_of seed n ++ line_of (group_after seed (5 * n))

-- the whole source
unfoldable pub source_text : ℕ → ℕ → List ℕ
source_text seed groups = opening ++ lines_of seed groups ++ closing
