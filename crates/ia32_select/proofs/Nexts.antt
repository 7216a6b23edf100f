-- Where control goes from a point, and the points that follow it.
use Rattle.std.proofs.Common.{◌≡◌, ◌⊎◌, ℕ, Bool, List, [], ◌∷◌, Option, Some, None, inl, inr, sym, ap, subst, ◌∙◌, cond}
use Rattle.std.specs.Prelude.{slice_get}
use Rattle.std.proofs.lemmas.Bool.Decides.{eqb_tells}
use Rattle.std.proofs.lemmas.Option.{none-some, same_Some}
use Rattle.flow_graph.specs.declared.op.Op.{Op}
use Rattle.flow_graph.specs.Graphs.{Flow, IsFlow, IsIn, IsPlaced, block_of, following, next_in, points_of}
use Rattle.flow_graph.specs.Liveness.{BeginsWith, GoesTo, IsBehind, IsSuccessor}
use Rattle.flow_graph.specs.Shapes.{Leads, Onward, IntoCall, ToBlock, ToEither, OutOfCall, OutOfProgram, shape}
use Rattle.flow_graph.proofs.Blocks.{next_in_block}
use Rattle.ia32_select.specs.declared.exits.Exit.{Exit}
use Rattle.ia32_select.specs.declared.exits.Exit.TheVariants.{Next, Block, Either, Nowhere}
use Rattle.ia32_select.specs.EdgeMoves.{AreNext}
use Rattle.ia32_select.specs.Exits.{exit_by, exit_of}

-- a point that has another behind it is there
has-behind : (p : ℕ) (ps : List ℕ) (q : ℕ) → following p ps ≡ Some q → IsIn p ps
has-behind p [] q e = absurd (none-some q e)
has-behind p (x ∷ ps) q e =
    elim (eqb_tells x p) [
      | inl same ↦ inl same.1
      | inr other ↦ inr (has-behind p ps q (sym (ap (λ (b : Bool). cond b (slice_get ps 0) (following p ps)) other.0) ∙ e))
    ]

-- where such an exit leads
abbrev ExitsTo : Flow → ℕ → ℕ → Exit → Type 0
ExitsTo flow point next Next = IsBehind flow point next
ExitsTo flow point next (Block x) = BeginsWith flow x next
ExitsTo flow point next (Either x y) = BeginsWith flow x next ⊎ BeginsWith flow y next
ExitsTo flow point next Nowhere = ⊥

by-exit : (flow : Flow) (point next : ℕ) (leads : Leads) → GoesTo flow point next leads
    → ExitsTo flow point next (exit_by leads)
by-exit flow point next Onward h = h
by-exit flow point next (IntoCall result words) h = h
by-exit flow point next (ToBlock x) h = h
by-exit flow point next (ToEither x y) h = h
by-exit flow point next OutOfCall h = h
by-exit flow point next OutOfProgram h = h

by-leads : (flow : Flow) (point next : ℕ) (leads : Leads) → ExitsTo flow point next (exit_by leads)
    → GoesTo flow point next leads
by-leads flow point next Onward h = h
by-leads flow point next (IntoCall result words) h = h
by-leads flow point next (ToBlock x) h = h
by-leads flow point next (ToEither x y) h = h
by-leads flow point next OutOfCall h = h
by-leads flow point next OutOfProgram h = h

module _ (flow : Flow) (point : ℕ) (o : Op) (placed : IsPlaced flow point) (has : slice_get flow.ops point ≡ Some o) where
  there : (exit : Exit) → exit_of o ≡ exit → (next : ℕ) → ExitsTo flow point next exit → IsSuccessor flow point next
  there exit e next h =
      (placed, o, has, by-leads flow point next (shape o).leads (subst (ExitsTo flow point next) (sym e) h))

  here : (exit : Exit) → exit_of o ≡ exit → (next : ℕ) → IsSuccessor flow point next → ExitsTo flow point next exit
  here exit e next (also, op, f, leads) =
      let mine : GoesTo flow point next (shape o).leads =
      subst (λ (x : Op). GoesTo flow point next (shape x).leads) (same_Some op o (sym f ∙ has)) leads in
      subst (ExitsTo flow point next) e (by-exit flow point next (shape o).leads mine)

  -- the next point alone
  pub next-behind : (homes : List ℕ) → IsFlow flow homes → (to : Option ℕ) → exit_of o ≡ Next
      → to ≡ next_in flow point → AreNext flow point (to, None)
  next-behind homes is to e same =
      record {
        first = λ next f. there Next e next (block_of flow point, sym same ∙ f);
        second = λ next f. absurd (none-some next f);
        all = λ next s. let behind = here Next e next s in
            inl (same ∙ (next_in_block flow homes is point behind.0
            (has-behind point (points_of flow behind.0) next behind.1) ∙ behind.1));
      }

  -- the first point of a block alone
  pub next-first : (x : ℕ) (to : Option ℕ) → exit_of o ≡ Block x → to ≡ slice_get (points_of flow x) 0
      → AreNext flow point (to, None)
  next-first x to e same =
      record {
        first = λ next f. there (Block x) e next (sym same ∙ f);
        second = λ next f. absurd (none-some next f);
        all = λ next s. inl (same ∙ here (Block x) e next s);
      }

  -- those of two blocks
  pub next-either : (x y : ℕ) (to other : Option ℕ) → exit_of o ≡ Either x y → to ≡ slice_get (points_of flow x) 0
      → other ≡ slice_get (points_of flow y) 0 → AreNext flow point (to, other)
  next-either x y to other e same also =
      record {
        first = λ next f. there (Either x y) e next (inl (sym same ∙ f));
        second = λ next f. there (Either x y) e next (inr (sym also ∙ f));
        all = λ next s. elim (here (Either x y) e next s) [
          | inl begins ↦ inl (same ∙ begins)
          | inr begins ↦ inr (also ∙ begins)
        ];
      }

  -- none
  pub next-nowhere : exit_of o ≡ Nowhere → AreNext flow point (None, None)
  next-nowhere e =
      record {
        first = λ next f. absurd (none-some next f);
        second = λ next f. absurd (none-some next f);
        all = λ next s. absurd (here Nowhere e next s);
      }
