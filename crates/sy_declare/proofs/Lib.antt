mod DeclareLemmas
mod FormLemmas
