use Rattle.std.specs.Prelude.{codes}
use Rattle.pcc_gen.specs.Generated.{calls}
use Rattle.pcc_gen.proofs.Putting.{put_eleven}
use Rattle.pcc_gen.proofs.program.push_main.Goals as goal

pub returns : goal.returns
returns c =
    put_eleven (codes "int main(void) {\n") (codes "  int s = 0;\n") (codes "  int i;\n")
    (codes "  for (i = 0; i < 10; i++) {\n") (calls c.args.count 0) (codes "  }\n")
    (codes "  for (i = 0; i < 64; i++) s = s * 31 + t[i];\n")
    (codes "  for (i = 28; i >= 0; i -= 4) putchar(\"0123456789abcdef\"[(s >> i) & 15]);\n")
    (codes "  putchar('\\n');\n") (codes "  return 0;\n") (codes "}\n") _ _ _ _ _ _ _ _ _ _ _ _
    c.in_ok-extend_from_slice.ensures.items c.in_ok-extend_from_slice-2.ensures.items
    c.in_ok-extend_from_slice-3.ensures.items c.in_ok-extend_from_slice-4.ensures.items c.in_ok-push_calls.ensures
    c.in_ok-extend_from_slice-5.ensures.items c.in_ok-extend_from_slice-6.ensures.items
    c.in_ok-extend_from_slice-7.ensures.items c.in_ok-extend_from_slice-8.ensures.items
    c.in_ok-extend_from_slice-9.ensures.items c.in_ok-extend_from_slice-10.ensures.items
