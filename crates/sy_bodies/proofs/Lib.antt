mod FormLemmas
mod RangedLemmas
mod StartLemmas
mod StepLemmas
