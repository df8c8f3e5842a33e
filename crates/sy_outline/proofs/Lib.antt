mod FormLemmas
mod StepLemmas
