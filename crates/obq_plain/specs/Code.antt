-- Codes of configurations: data that gives them back, which proofs tell apart.
use Rattle.std.proofs.Common.{Bool, List, None, Option, [], false, if◌then◌else◌, refl, ℕ, ◌==◌, ◌∷◌, ◌≡◌}
use Rattle.std.specs.Coded.{Coded, code_by, coded_bool, coded_list, coded_option, coded_ℕ, coded×}
use Rattle.obq_base.specs.declared.trees.Flags.{Flags}
use Rattle.obq_model.specs.Config as k
use Rattle.obq_model.specs.Store as c
use Rattle.obq_model.specs.Terms as m
use Rattle.obq_model.specs.Terms.{Bytes}
use Rattle.obq_terms.specs.Code.{term_code}

-- ---- values and fields, as terms

abbrev value_in : m.Term ℕ → m.Value ℕ
value_in (m.Const v) = v
value_in t = m.Okay

abbrev value_code : Coded (m.Value ℕ)
value_code = code_by (m.Term ℕ) term_code (λ v. m.Const v) value_in (λ _. refl)

abbrev fields_in : m.Term ℕ → m.Fields ℕ
fields_in (m.Form (m.Cloning flags fs rest) ps) = fs
fields_in t = m.Bare

abbrev fields_code : Coded (m.Fields ℕ)
fields_code = code_by (m.Term ℕ) term_code (λ fs. m.Form (m.Cloning None fs []) m.End) fields_in (λ _. refl)

-- ---- cells

-- the number of a cell's kind, its flags, owner, fields, values and numbers
abbrev CellData : Type 0
CellData = ℕ × ((Bool × Bool) × (Option ℕ × (m.Fields ℕ × (List (m.Value ℕ) × List ℕ))))

abbrev cell_data : c.Cell ℕ → CellData
cell_data (c.ObjectCell flags owner fields) = (0, ((flags.protected, flags.serialized), (owner, (fields, ([], [])))))
cell_data (c.ArrayCell vs) = (1, ((false, false), (None, (m.Bare, (vs, [])))))
cell_data (c.VariableCell v) = (2, ((false, false), (None, (m.Bare, (v ∷ [], [])))))
cell_data (c.WriterCell bytes) = (3, ((false, false), (None, (m.Bare, ([], bytes)))))
cell_data (c.ConditionCell line) = (4, ((false, false), (None, (m.Bare, ([], line)))))
cell_data (c.EngineCell v) = (5, ((false, false), (None, (m.Bare, (v ∷ [], [])))))

abbrev first_value : List (m.Value ℕ) → m.Value ℕ
first_value [] = m.Okay
first_value (v ∷ vs) = v

abbrev flags_from : Bool × Bool → Flags
flags_from b = record { protected = b.0; serialized = b.1 }

abbrev cell_from : CellData → c.Cell ℕ
cell_from d = if d.0 == 0 then c.ObjectCell (flags_from d.1.0) d.1.1.0 d.1.1.1.0 else (if d.0 == 1 then c.ArrayCell d.1.1.1.1.0 else (if d.0 == 2 then c.VariableCell (first_value d.1.1.1.1.0) else (if d.0 == 3 then c.WriterCell d.1.1.1.1.1 else (if d.0 == 4 then c.ConditionCell d.1.1.1.1.1 else (c.EngineCell (first_value d.1.1.1.1.0))))))

pub cell_back : (cell : c.Cell ℕ) → cell_from (cell_data cell) ≡ cell
cell_back (c.ObjectCell flags owner fields) = refl
cell_back (c.ArrayCell vs) = refl
cell_back (c.VariableCell v) = refl
cell_back (c.WriterCell bytes) = refl
cell_back (c.ConditionCell line) = refl
cell_back (c.EngineCell v) = refl

abbrev cell_code : Coded (c.Cell ℕ)
cell_code =
    code_by CellData
    (coded× coded_ℕ (coded× (coded× coded_bool coded_bool) (coded× (coded_option coded_ℕ) (coded× fields_code (coded× (coded_list value_code) (coded_list coded_ℕ))))))
    cell_data cell_from cell_back

abbrev store_code : Coded (c.Store ℕ)
store_code =
    code_by (List (c.Cell ℕ) × List (Bytes × m.Value ℕ)) (coded× (coded_list cell_code) (coded_list (coded× (coded_list coded_ℕ) value_code)))
    (λ s. (s.cells, s.names)) (λ p. record { cells = p.0; names = p.1 }) (λ _. refl)

-- ---- threads

-- whether it runs, whether it returned, its term or value, and its exception
abbrev ExecutionData : Type 0
ExecutionData = ℕ × (m.Term ℕ × Bytes)

abbrev execution_data : k.Execution → ExecutionData
execution_data (k.Running t) = (0, (t, []))
execution_data (k.Returned v) = (1, (m.Const v, []))
execution_data (k.Failed e) = (2, (m.Const m.Okay, e))

abbrev execution_from : ExecutionData → k.Execution
execution_from d = if d.0 == 0 then k.Running d.1.0 else (if d.0 == 1 then k.Returned (value_in d.1.0) else (k.Failed d.1.1))

pub execution_back : (x : k.Execution) → execution_from (execution_data x) ≡ x
execution_back (k.Running t) = refl
execution_back (k.Returned v) = refl
execution_back (k.Failed e) = refl

abbrev execution_code : Coded k.Execution
execution_code = code_by ExecutionData (coded× coded_ℕ (coded× term_code (coded_list coded_ℕ))) execution_data execution_from execution_back

abbrev thread_code : Coded k.ThreadState
thread_code =
    code_by (k.Execution × ℕ) (coded× execution_code coded_ℕ)
    (λ s. (s.execution, s.used)) (λ p. record { execution = p.0; used = p.1 }) (λ _. refl)

abbrev pub config_code : Coded k.Config
config_code =
    code_by (c.Store ℕ × List k.ThreadState) (coded× store_code (coded_list thread_code))
    (λ s. (s.store, s.threads)) (λ p. record { store = p.0; threads = p.1 }) (λ _. refl)
