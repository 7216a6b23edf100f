-- Both sections can be linked, and each function has points.
use Rattle.std.proofs.Common.{refl, ap, arith, length, false, true}
use Rattle.ia32_asm.specs.declared.section.Target.TheVariants as target
use Rattle.ia32_tests.proofs.Example.{any_link, points_low, no_points_low}
use Rattle.ia32_tests.proofs.linking.words_of_any_sections.Goals as goal

pub link-requires : goal.link-requires
link-requires g c =
    any_link
    (record {
      bytes = c.in_ok-load_bytes.load_bytes;
      symbols = c.in_ok-load_symbols.load_symbols;
      relocations = c.in_ok-load_words.load_words;
      points = c.in_ok-load_points.load_points;
    })
    (record {
      bytes = c.in_ok-call_bytes.call_bytes;
      symbols = c.in_ok-call_symbols.call_symbols;
      relocations = c.in_ok-call_words.call_words;
      points = c.new-call_points.result;
    })
    (record { at = 1; relative = false; target = target.Function 0 })
    (record { at = 1; relative = true; target = target.Function 0 })
    c.in_ok-sections.sections.items c.new-objects.result.items
    c.in_ok-load_symbols.ensures.items c.in_ok-call_symbols.ensures.items c.in_ok-load_words.ensures.items
    c.in_ok-call_words.ensures.items refl refl refl refl (ap length c.in_ok-load_bytes.ensures.items)
    (ap length c.in_ok-call_bytes.ensures.items)
    (points_low c.in_ok-load_points.load_points.items c.in_ok-load_points.ensures.items)
    (no_points_low c.new-call_points.result.items c.new-call_points.ensures.items) c.in_ok-sections.ensures.items
    c.new-objects.ensures.items

pub index-requires : goal.index-requires
index-requires g c =
    omega (arith, c.in_ok-linked.ensures.layout.points_many, ap length c.in_ok-sections.ensures.items)
