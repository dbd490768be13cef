-- The exceptions that the machine raises have short texts.
use Rattle.std.proofs.Common.{arith}
use Rattle.obq_model.specs.Exceptions.{arity, array_index, array_limit, call_limit, closure_limit, compare_closure, field_missing, field_twice, fork_limit, int_divide, int_overflow, is_protected, not_method, not_serialized, not_value, not_variable, text_limit, text_range, wrong_type, exit_outside}
use Rattle.obq_laws.specs.Known.{Places, Threads, IsKnown, IsText}

pub raises_type : {R : Type 0} (L : Places R) (T : Threads) → IsKnown L T wrong_type
raises_type L T = (λ b. omega arith, tt)

pub raises_arity : {R : Type 0} (L : Places R) (T : Threads) → IsKnown L T arity
raises_arity L T = (λ b. omega arith, tt)

pub raises_compare : {R : Type 0} (L : Places R) (T : Threads) → IsKnown L T compare_closure
raises_compare L T = (λ b. omega arith, tt)

pub raises_int_overflow : {R : Type 0} (L : Places R) (T : Threads) → IsKnown L T int_overflow
raises_int_overflow L T = (λ b. omega arith, tt)

pub raises_int_divide : {R : Type 0} (L : Places R) (T : Threads) → IsKnown L T int_divide
raises_int_divide L T = (λ b. omega arith, tt)

pub raises_text_limit : {R : Type 0} (L : Places R) (T : Threads) → IsKnown L T text_limit
raises_text_limit L T = (λ b. omega arith, tt)

pub raises_text_range : {R : Type 0} (L : Places R) (T : Threads) → IsKnown L T text_range
raises_text_range L T = (λ b. omega arith, tt)

pub raises_array_limit : {R : Type 0} (L : Places R) (T : Threads) → IsKnown L T array_limit
raises_array_limit L T = (λ b. omega arith, tt)

pub raises_array_index : {R : Type 0} (L : Places R) (T : Threads) → IsKnown L T array_index
raises_array_index L T = (λ b. omega arith, tt)

pub raises_field_missing : {R : Type 0} (L : Places R) (T : Threads) → IsKnown L T field_missing
raises_field_missing L T = (λ b. omega arith, tt)

pub raises_field_twice : {R : Type 0} (L : Places R) (T : Threads) → IsKnown L T field_twice
raises_field_twice L T = (λ b. omega arith, tt)

pub raises_not_method : {R : Type 0} (L : Places R) (T : Threads) → IsKnown L T not_method
raises_not_method L T = (λ b. omega arith, tt)

pub raises_not_value : {R : Type 0} (L : Places R) (T : Threads) → IsKnown L T not_value
raises_not_value L T = (λ b. omega arith, tt)

pub raises_not_variable : {R : Type 0} (L : Places R) (T : Threads) → IsKnown L T not_variable
raises_not_variable L T = (λ b. omega arith, tt)

pub raises_protected : {R : Type 0} (L : Places R) (T : Threads) → IsKnown L T is_protected
raises_protected L T = (λ b. omega arith, tt)

pub raises_not_serialized : {R : Type 0} (L : Places R) (T : Threads) → IsKnown L T not_serialized
raises_not_serialized L T = (λ b. omega arith, tt)

pub raises_fork_limit : {R : Type 0} (L : Places R) (T : Threads) → IsKnown L T fork_limit
raises_fork_limit L T = (λ b. omega arith, tt)

pub raises_call_limit : {R : Type 0} (L : Places R) (T : Threads) → IsKnown L T call_limit
raises_call_limit L T = (λ b. omega arith, tt)

pub raises_closure_limit : {R : Type 0} (L : Places R) (T : Threads) → IsKnown L T closure_limit
raises_closure_limit L T = (λ b. omega arith, tt)

pub exit_short : (T : Threads) → IsText T exit_outside
exit_short T = λ b. omega arith
