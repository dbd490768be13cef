-- What the steps of the pass do to its state.
use Rattle.std.specs.Prelude.{List, length, ℕ, ◌++◌}
use Rattle.obq_model.specs.Terms.{Bytes}
use Rattle.obq_model.specs.Scopes as model
use Rattle.obq_scope.specs.declared.coder.Around.{Around}
use Rattle.obq_scope.specs.declared.coder.Coder.{Coder}
use Rattle.obq_scope.specs.declared.emitter.Emitter.{Emitter}
use Rattle.obq_scope.specs.declared.outside.Outside.{Outside}
use Rattle.obq_scope.specs.Coded.{inner, whole}
use Rattle.obq_scope.specs.Narrowed.{narrowed}
use Rattle.obq_scope.specs.Outsides.{outside_of}

-- this is made in the code, under its binders in force
abbrev pub after : (model.Outside → List Bytes → Emitter → Emitter) → Coder → Coder
after f s = record { alloc = s.alloc; outside = s.outside; locals = s.locals; emitter = f (outside_of s.outside) s.locals s.emitter }

-- more binders
abbrev pub under : List Bytes → Coder → Coder
under names s = record { alloc = s.alloc; outside = s.outside; locals = s.locals ++ names; emitter = s.emitter }

-- codes to come know this
abbrev pub entered : (members captured : List Bytes) → Coder → Coder
entered members captured s = record { alloc = s.alloc; outside = record { source = s.outside.source; members = members; captured = captured }; locals = s.locals; emitter = s.emitter }

abbrev pub left : Outside → Coder → Coder
left outside s = record { alloc = s.alloc; outside = outside; locals = s.locals; emitter = s.emitter }

-- a code begins
abbrev pub begun : (params : List Bytes) → Coder → Coder
begun params s = record { alloc = s.alloc; outside = s.outside; locals = params; emitter = inner s.emitter }

-- what is kept meanwhile of the one around it
abbrev pub around_of : Coder → Around
around_of s = record { locals = s.locals; nodes = s.emitter.output.nodes }

-- it is whole
abbrev pub finished : (params : ℕ) → Around → Coder → Coder
finished params around s = record { alloc = s.alloc; outside = s.outside; locals = around.locals; emitter = whole (narrowed (length s.outside.captured)) (narrowed params) around.nodes s.emitter }
