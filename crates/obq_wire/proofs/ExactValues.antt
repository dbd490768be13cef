-- Values, entries and fields are read as they are spelled.
use Rattle.std.proofs.Common.{◌≡◌, ℕ, List, ◌++◌, Ok, refl}
use Rattle.std.specs.List.{AllByRecursion}
use Rattle.obq_base.specs.declared.code.CodeNo.{CodeNo}
use Rattle.obq_base.specs.declared.places.Kind.TheVariants as kind
use Rattle.obq_base.specs.declared.values.GroupNo.{GroupNo}
use Rattle.obq_wire.specs.declared.values.TableEntry.{TableEntry}
use Rattle.obq_wire.specs.declared.values.WireBody.{WireBody}
use Rattle.obq_wire.specs.declared.values.WireBody.TheVariants as b
use Rattle.obq_wire.specs.declared.values.WireField.{WireField}
use Rattle.obq_wire.specs.declared.values.WireValue.{WireValue}
use Rattle.obq_wire.specs.declared.values.WireValue.TheVariants as v
use Rattle.obq_wire.specs.Spelling.{list, value, group_number, code_number, entry, body, field}
use Rattle.obq_wire.specs.Fits.{IsValue, IsList, IsGroupNumber, IsCodeNumber, IsEntry, IsTable, IsBody, IsField}
use Rattle.obq_wire.specs.Reading.{value_arms, value_at, values_at, group_number_at, code_number_at, entry_at, table_at, body_arms, body_at, field_at}
use Rattle.obq_wire.proofs.Exact.{Exact, ArmTakes, tagged_takes, one_again, two_again, exact_two, exact_three, arm_none, arm_one, arm_two}
use Rattle.obq_wire.proofs.Fields.{exact_u16, exact_u32, exact_u64}
use Rattle.obq_wire.proofs.Lists.{exact_items, exact_list}
use Rattle.obq_wire.proofs.ExactParts.{exact_text, exact_name, exact_integer, exact_truth, exact_site, exact_thread, exact_reference, exact_cell, exact_closure}

module _ (table : List TableEntry) where
  value_arms_take : AllByRecursion (ArmTakes value (IsValue table)) (value_arms table)
  value_arms_take = (
    arm_one value (IsValue table) exact_integer 0 v.Int (λ _. refl) (λ _ f. f),
    (
      arm_one value (IsValue table) exact_truth 1 v.Bool (λ _. refl) (λ _ f. f),
      (
        arm_none value (IsValue table) 2 v.Okay refl tt,
        (
          arm_one value (IsValue table) exact_text 3 v.Text (λ _. refl) (λ _ f. f),
          (
            arm_one value (IsValue table) exact_text 4 v.Exn (λ _. refl) (λ _ f. f),
            (
              arm_one value (IsValue table) (exact_closure table) 5 v.Clo (λ _. refl) (λ _ f. f),
              (
                arm_one value (IsValue table) exact_reference 6 v.Ref (λ _. refl) (λ _ f. f),
                (
                  arm_two value (IsValue table) exact_thread exact_site 7 v.Thread (λ _ _. refl) (λ _ _ f g. (f, g)),
                  tt,
                ),
              ),
            ),
          ),
        ),
      ),
    ),
  )

  value_again : (x : WireValue) (rest : List ℕ) → IsValue table x → value_at table (value x ++ rest) ≡ Ok (x, rest)
  unfolding value_at
  value_again (v.Int z) rest fits = one_again exact_integer v.Int z rest fits
  value_again (v.Bool t) rest fits = one_again exact_truth v.Bool t rest fits
  value_again v.Okay rest fits = refl
  value_again (v.Text t) rest fits = one_again exact_text v.Text t rest fits
  value_again (v.Exn t) rest fits = one_again exact_text v.Exn t rest fits
  value_again (v.Clo m) rest fits = one_again (exact_closure table) v.Clo m rest fits
  value_again (v.Ref r) rest fits = one_again exact_reference v.Ref r rest fits
  value_again (v.Thread t home) rest fits = two_again exact_thread exact_site v.Thread t home rest fits.0 fits.1

  pub exact_value : Exact (value_at table) value (IsValue table)
  unfolding value_at
  exact_value = record { takes = tagged_takes value (IsValue table) (value_arms table) value_arms_take; again = value_again }

  pub exact_values : Exact (values_at table) (list value) (IsList (IsValue table))
  exact_values = exact_list exact_value

  body_arms_take : AllByRecursion (ArmTakes body (IsBody table)) (body_arms table)
  body_arms_take = (
    arm_one body (IsBody table) exact_value 0 b.Value (λ _. refl) (λ _ f. f),
    (
      arm_one body (IsBody table) (exact_closure table) 1 b.Method (λ _. refl) (λ _ f. f),
      (
        arm_two body (IsBody table) (exact_cell kind.Object) exact_name 2 b.Alias (λ _ _. refl) (λ _ _ f g. (f, g)),
        tt,
      ),
    ),
  )

  body_again : (x : WireBody) (rest : List ℕ) → IsBody table x → body_at table (body x ++ rest) ≡ Ok (x, rest)
  unfolding body_at
  body_again (b.Value x) rest fits = one_again exact_value b.Value x rest fits
  body_again (b.Method m) rest fits = one_again (exact_closure table) b.Method m rest fits
  body_again (b.Alias to name) rest fits = two_again (exact_cell kind.Object) exact_name b.Alias to name rest fits.0 fits.1

  pub exact_body : Exact (body_at table) body (IsBody table)
  unfolding body_at
  exact_body = record { takes = tagged_takes body (IsBody table) (body_arms table) body_arms_take; again = body_again }

  pub exact_field : Exact (field_at table) field (IsField table)
  unfolding field_at
  exact_field = exact_two exact_name exact_body (λ name body. record { name = name; body = body }) (λ (f : WireField). f.name) (λ f. f.body) (λ _. refl) (λ _ _. refl) (λ _ _. refl)

pub exact_group_number : Exact group_number_at group_number IsGroupNumber
unfolding group_number_at
exact_group_number = exact_two exact_u32 exact_u64 (λ thread n. record { thread = thread; n = n }) (λ (g : GroupNo). g.thread) (λ g. g.n) (λ _. refl) (λ _ _. refl) (λ _ _. refl)

pub exact_code_number : Exact code_number_at code_number IsCodeNumber
unfolding code_number_at
exact_code_number = exact_two exact_u16 exact_u32 (λ source n. record { source = source; n = n }) (λ (c : CodeNo). c.source) (λ c. c.n) (λ _. refl) (λ _ _. refl) (λ _ _. refl)

pub exact_entry : (earlier : List TableEntry) → Exact (entry_at earlier) entry (IsEntry earlier)
unfolding entry_at
exact_entry earlier = exact_three exact_group_number (exact_list exact_code_number) (exact_values earlier) (λ number codes captured. record { number = number; codes = codes; captured = captured })
    (λ (e : TableEntry). e.number) (λ e. e.codes) (λ e. e.captured) (λ _. refl) (λ _ _ _. refl) (λ _ _ _. refl) (λ _ _ _. refl)

pub exact_table : Exact table_at (list entry) IsTable
exact_table = exact_items exact_entry
