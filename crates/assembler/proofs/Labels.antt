-- A label more in the map.
use Rattle.std.proofs.Common.{◌≡◌, ℕ, false, cond, not, bytes_eq, List, Option, Some, Ok, sym, ap, ◌∙◌}
use mathlib.Core.Path.{fun_ext}
use Rattle.std.specs.Borrow.{Bor}
use Rattle.std.specs.BTreeMap.{BTreeMap, UpdatesBy}
use Rattle.std.specs.Cmp.Lexicographic.{slice_cmp}
use Rattle.std.specs.Ordering.{nat_cmp}
use Rattle.std.specs.Option.{is_some}
use Rattle.std.proofs.lemmas.Map.Text.{btree_map_updates_str}
use Rattle.statements.specs.declared.fault.AsmFault.TheVariants.{TwiceDefined}
use Rattle.statements.specs.declared.place.Place.{Place}
use Rattle.statements.specs.Operands.{checked}
use Rattle.statements.specs.Places.{places_in}
use Rattle.assembler.specs.Passes.{with_label}

pub label_kept : (name : List ℕ) (at : Place) (m n : BTreeMap (Bor (List ℕ)) Place)
    → UpdatesBy (λ x y. slice_cmp nat_cmp x.now y.now) (λ k. slice_cmp nat_cmp name k.now) m n (Some at)
    → is_some (places_in m name) ≡ false → with_label (Some name) at (places_in m) ≡ Ok (places_in n)
label_kept name at m n updates fresh =
    let after : (λ other. cond (bytes_eq name other) (Some at) (places_in m other)) ≡ places_in n = fun_ext (λ other. sym (btree_map_updates_str name m n (Some at) updates other)) in
    ap (λ b. checked (not b) TwiceDefined (λ (other : List ℕ). cond (bytes_eq name other) (Some at) (places_in m other))) fresh ∙ ap (λ (f : List ℕ → Option Place). Ok f) after
