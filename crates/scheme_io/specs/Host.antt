-- What a store and a sink of the machine are seen as.
-- A reader of std may tell what remains of it, and a writer what it holds. The store and the sink then tell it too.
use Rattle.std.specs.Prelude.{ℕ, Bool, true, false, List, [], Option, Some}
use Rattle.scheme_io.specs.declared.host_store.Current.{Current}
use Rattle.scheme_io.specs.declared.host_store.Current.TheVariants.{Nothing, File, Input}

-- where the next bytes of a store come from
pub data Source : Type 0 where
  -- no file is current
  Nowhere : Source
  -- a file that was opened by its name
  OpenedFile : Source
  -- standard input
  StandardInput : Source

-- a file is current
abbrev pub is_open : Source → Bool
is_open Nowhere = false
is_open _ = true

pub record StoreOfHost : Type 0 where
  pub source : Source
  -- what is left to read, where its reader tells it: nothing where no file is current
  pub rest : Option (List ℕ)
  pub faults : ℕ

-- where the bytes of the current file come from
abbrev pub source_of : {F I : Type 0} → Current F I → Source
source_of Nothing = Nowhere
source_of (File _) = OpenedFile
source_of (Input _) = StandardInput

-- what is left of the current file, by what files and standard input tell of themselves
abbrev pub rest_of : {F I : Type 0} → (F → Option (List ℕ)) → (I → Option (List ℕ)) → Current F I → Option (List ℕ)
rest_of of_file of_input Nothing = Some []
rest_of of_file of_input (File file) = of_file file
rest_of of_file of_input (Input input) = of_input input

pub record SinkOfHost : Type 0 where
  -- the bytes that the writer holds, where it tells them
  pub contents : Option (List ℕ)
  pub faults : ℕ
